use Rattle.rules.specs.Kinds.{kind}
use mathlib.Core.Path.{◌∙◌, sym, ap}
use mathlib.Core.Bool.{◌&&◌, ◌||◌, not}
use mathlib.Core.List.{[], ◌∷◌}
use mathlib.Core.Option.{Option}
use Prim.Native.Nat.{ℕ, ◌+◌}
use native.Mathlib.Omega.{arith}
use lib.Dec.{eqb, leb}
use Rattle.words.specs.Small.{some_below}
use Rattle.words.specs.Refusals.{first_code_of, ◌when◌}
use Rattle.rules.specs.State.{input_of}
use Rattle.rules.specs.Commit.{barred, visible}
use Rattle.machine.specs.Shown.{holder_of, shown_entry}
use Rattle.sights.specs.Sights.{holding}
use Rattle.committing.proofs.Refusing.{read_sight, sync_given, barred_given, rest_27, rest_28, rest_29, rest_30, rest_31, rest_32}
use Rattle.committing.proofs.rest_code.Goals as goal

pub returns-then-src-kind : goal.returns-then-src-kind
returns-then-src-kind c =
    let a = c.args in
    let q = c.kind_of-kind.ensures.0 in
    λ x s v g.
    rest_27 _ _ _ _ _ _
    (ap (λ (n : ℕ). not (eqb a.src 0) && not (eqb n 1)) (sym q) ∙ c.if-src-kind.true)

pub returns-then-held : goal.returns-then-held
returns-then-held c =
    let a = c.args in
    let q = c.kind_of-kind.ensures.0 in
    λ x s v g.
    rest_28 _ _ _ _ _ _
    (ap (λ (n : ℕ). not (eqb a.src 0) && not (eqb n 1)) (sym q) ∙ c.if-src-kind.false)
    (ap (λ (n : ℕ). some_below a.k (λ j. holding a.p n a.e.loc (s.actions j))) (sym q) ∙ sym (c.held.ensures x s v.names.kept (omega (arith, v.there))) ∙ c.if-held.true)

pub returns-then-unready : goal.returns-then-unready
returns-then-unready c =
    let a = c.args in
    let q = c.kind_of-kind.ensures.0 in
    λ x s v g.
    rest_29 _ _ _ _ _ _
    (ap (λ (n : ℕ). not (eqb a.src 0) && not (eqb n 1)) (sym q) ∙ c.if-src-kind.false)
    (ap (λ (n : ℕ). some_below a.k (λ j. holding a.p n a.e.loc (s.actions j))) (sym q) ∙ sym (c.held.ensures x s v.names.kept (omega (arith, v.there))) ∙ c.if-held.false)
    (sym (c.unready.ensures x s v.names) ∙ c.if-unready.true)

pub returns-then-kind-case : goal.returns-then-kind-case
returns-then-kind-case c =
    let a = c.args in
    let q = c.kind_of-kind.ensures.0 in
    λ x s v g.
    rest_30 _ _ _ _ _ _
    (ap (λ (n : ℕ). not (eqb a.src 0) && not (eqb n 1)) (sym q) ∙ c.if-src-kind.false)
    (ap (λ (n : ℕ). some_below a.k (λ j. holding a.p n a.e.loc (s.actions j))) (sym q) ∙ sym (c.held.ensures x s v.names.kept (omega (arith, v.there))) ∙ c.if-held.false)
    (sym (c.unready.ensures x s v.names) ∙ c.if-unready.false)
    (sym ((λ j. (eqb (q j) 6 || eqb (q j) 7) && leb ((sym v.present) j) a.x) ∙ sync_given (kind a.e.instr) x.locs a.x (input_of s (shown_entry x a.e) 0) g) ∙ c.if-kind-case.true)

pub returns-then-barred_by : goal.returns-then-barred_by
returns-then-barred_by c =
    let a = c.args in
    let q = c.kind_of-kind.ensures.0 in
    λ x s v g.
    rest_31 _ _ _ _ _ _
    (ap (λ (n : ℕ). not (eqb a.src 0) && not (eqb n 1)) (sym q) ∙ c.if-src-kind.false)
    (ap (λ (n : ℕ). some_below a.k (λ j. holding a.p n a.e.loc (s.actions j))) (sym q) ∙ sym (c.held.ensures x s v.names.kept (omega (arith, v.there))) ∙ c.if-held.false)
    (sym (c.unready.ensures x s v.names) ∙ c.if-unready.false)
    (sym ((λ j. (eqb (q j) 6 || eqb (q j) 7) && leb ((sym v.present) j) a.x) ∙ sync_given (kind a.e.instr) x.locs a.x (input_of s (shown_entry x a.e) 0) g) ∙ c.if-kind-case.false)
    (sym (c.barred_by.ensures ∙ (λ j. barred a.p (q j) (holder_of (c.holder_at.ensures j))) ∙ ap (λ (f : ℕ → Option ℕ). barred a.p (kind a.e.instr) (f a.x)) (sym v.locks) ∙ barred_given a.p (kind a.e.instr) a.x (input_of s (shown_entry x a.e) 0) s.holders g) ∙ c.if-barred_by.true)

pub returns : goal.returns
returns c =
    let a = c.args in
    let q = c.kind_of-kind.ensures.0 in
    λ x s v g.
    c.sight_code.ensures x s (read_sight x s a.case.now.masks a.m.now.rows a.m.now.sets a.m.now.holders a.case.now.locs a.e a.k _ v q)
    ∙ ap (λ (n : ℕ). first_code_of (32 when (eqb n 1 && not (visible x s a.e.loc (8 + a.k) a.src)) ∷ [])) q
    ∙ rest_32 _ _ _ _ _ _
    (ap (λ (n : ℕ). not (eqb a.src 0) && not (eqb n 1)) (sym q) ∙ c.if-src-kind.false)
    (ap (λ (n : ℕ). some_below a.k (λ j. holding a.p n a.e.loc (s.actions j))) (sym q) ∙ sym (c.held.ensures x s v.names.kept (omega (arith, v.there))) ∙ c.if-held.false)
    (sym (c.unready.ensures x s v.names) ∙ c.if-unready.false)
    (sym ((λ j. (eqb (q j) 6 || eqb (q j) 7) && leb ((sym v.present) j) a.x) ∙ sync_given (kind a.e.instr) x.locs a.x (input_of s (shown_entry x a.e) 0) g) ∙ c.if-kind-case.false)
    (sym (c.barred_by.ensures ∙ (λ j. barred a.p (q j) (holder_of (c.holder_at.ensures j))) ∙ ap (λ (f : ℕ → Option ℕ). barred a.p (kind a.e.instr) (f a.x)) (sym v.locks) ∙ barred_given a.p (kind a.e.instr) a.x (input_of s (shown_entry x a.e) 0) s.holders g) ∙ c.if-barred_by.false)
