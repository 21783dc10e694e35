-- A release committed before an acquire of its location stands before it. Assumes nothing.
use mathlib.Core.Path.{◌≡◌, refl, sym, ◌∙◌, ap, subst}
use mathlib.Core.Logic.{⊎_elim}
use mathlib.Core.Bool.{true, false, ◌&&◌, false≢true}
use mathlib.Core.List.{List}
use mathlib.Core.Option.{some}
use Prim.Native.Nat.{ℕ, ◌+◌, ◌<◌}
use native.Mathlib.Omega.{arith}
use borrow.Author.Tests.{eqb-true, eq-eqb}
use Rattle.words.specs.Small.{is_none, is, any}
use Rattle.words.proofs.Bools.{and_both, and_make, or_cases}
use Rattle.cases.specs.declared.Instr.{Instr}
use Rattle.cases.specs.declared.Instr.TheVariants.{Empty, Read, Write, Local, Branch, Goto, Acquire, Release}
use Rattle.cases.specs.declared.Case.{Case}
use Rattle.runs.proofs.Walk.{Walk, stop, go}
use Rattle.rules.specs.Kinds.{kind, acquiring, releasing}
use Rattle.rules.specs.State.{State, Action, kind_of}
use Rattle.rules.specs.Commit.{input, result_of, settled, released}
use Rattle.rules.specs.Step.{Step, issue, commit, neither, step_code}
use Rattle.rules.proofs.Closed.{joined_if_adds}
use Rattle.rules.proofs.Accepted.{CanCommit, can_commit}
use Rattle.rules.proofs.Actions.{committed_self, committed_count}
use Rattle.oneorder.specs.OneOrder.{OneState, view, committed_one, after_one, womm_one}
use Rattle.oneorder.proofs.Items.{item_at}
use Rattle.races.specs.Happens.{commits_it, in_turn}
use Rattle.races.proofs.Grows.{Grows, grows_step, grows}

pub acquire_result : (c : Case) (s : State) (p k e : ℕ) (i : Instr) → acquiring (kind i) ≡ true → result_of c s p k e i ≡ input c s p k e 0
acquire_result c s p k e Empty h = absurd (false≢true h)
acquire_result c s p k e (Read d a) h = absurd (false≢true h)
acquire_result c s p k e (Write a b) h = absurd (false≢true h)
acquire_result c s p k e (Local d x) h = absurd (false≢true h)
acquire_result c s p k e (Branch a l) h = absurd (false≢true h)
acquire_result c s p k e (Goto l) h = absurd (false≢true h)
acquire_result c s p k e (Acquire a) h = refl
acquire_result c s p k e (Release a) h = absurd (false≢true h)

-- a committed acquire stands after each release of its location that was committed then
taken_edge : (c : Case) (s : OneState) (p k e : ℕ) → acquiring (kind_of (s.actions k)) ≡ true → (r : ℕ) → r < s.count → releasing (kind_of (s.actions r)) ≡ true → is (input c (view c s) p k e 0) (s.actions r).result ≡ true → (committed_one c s p k e).order (8 + r) (8 + k) ≡ true
unfolding committed_one
taken_edge c s p k e q r h f i =
    let n = input c (view c s) p k e 0 in
    joined_if_adds (acquiring (kind_of (s.actions k))) s.order (8 + k) (8 + s.count) (released c (view c s) p k e n) (8 + r) q (omega arith)
    (item_at false (λ a. releasing (kind_of a) && is n a.result) (view c s) r ∙ and_make _ _ f i)

-- r is a committed release with location v
record FreedAt (s : OneState) (r v : ℕ) : Type 0 where
  low : r < s.count
  frees : releasing (kind_of (s.actions r)) ≡ true
  location : (s.actions r).result ≡ some v

freed_at_grows : (s z : OneState) (r v : ℕ) → Grows s z → FreedAt s r v → FreedAt z r v
freed_at_grows s z r v g f =
    record {
      low = omega (arith, f.low, g.more);
      frees = ap (λ (a : Action). releasing (kind_of a)) (g.same r f.low) ∙ f.frees;
      location = g.done r f.low (ap is_none f.location) ∙ f.location;
    }

-- the step commits action k
record Settles (c : Case) (s : OneState) (t : Step) (k : ℕ) : Type 0 where
  proc : ℕ
  source : ℕ
  is_after : after_one c s t ≡ committed_one c s proc k source
  can : CanCommit c (view c s) proc k source

settles : (c : Case) (s : OneState) (t : Step) (k : ℕ) → step_code c (view c s) t ≡ 0 → commits_it k t ≡ true → Settles c s t k
unfolding after_one
settles c s (issue p) k h m = absurd (false≢true m)
settles c s (commit p n e) k h m =
    let q = eqb-true n k m in
    record { proc = p; source = e; is_after = ap (λ (z : ℕ). committed_one c s p z e) q; can = subst (λ (z : ℕ). CanCommit c (view c s) p z e) q (can_commit c (view c s) p n e h) }
settles c s neither k h m = absurd (false≢true m)

module _ (c : Case) (s : OneState) (p k e : ℕ) where
  self_settled : (committed_one c s p k e).actions k ≡ settled c (view c s) p k e
  unfolding committed_one
  self_settled = committed_self c (view c s) p k e

  same_count : (committed_one c s p k e).count ≡ s.count
  unfolding committed_one
  same_count = committed_count c (view c s) p k e

module _ (c : Case) (s e : OneState) (t : Step) (g : Grows (after_one c s t) e) (k : ℕ) (S : Settles c s t k) where
  abbrev given : ℕ
  given = result_of c (view c s) S.proc k S.source (s.actions k).instr

  low_then : k < (after_one c s t).count
  low_then = omega (arith, ap (λ (x : OneState). x.count) S.is_after ∙ same_count c s S.proc k S.source, S.can.there)

  -- what the commit gives stays
  settled_then : (after_one c s t).actions k ≡ settled c (view c s) S.proc k S.source
  settled_then = ap (λ (x : OneState). x.actions k) S.is_after ∙ self_settled c s S.proc k S.source

  result_then : (e.actions k).result ≡ some given
  result_then = let q = ap (λ (a : Action). a.result) settled_then in g.done k low_then (ap is_none q) ∙ q

  instr_then : (e.actions k).instr ≡ (s.actions k).instr
  instr_then = ap (λ (a : Action). a.instr) (g.same k low_then) ∙ ap (λ (a : Action). a.instr) settled_then

-- an acquire committed later
takes_later : (c : Case) {s e : OneState} {ts : List Step} → Walk (womm_one c) s ts e → (r a v : ℕ) → FreedAt s r v → any (commits_it a) ts ≡ true → acquiring (kind_of (e.actions a)) ≡ true → (e.actions a).result ≡ some v → e.order (8 + r) (8 + a) ≡ true
takes_later c (stop h) r a v f m q z = absurd (false≢true m)
takes_later c {s} {e} (go {t = t} {ts = ts} h w) r a v f m q z =
    ⊎_elim (λ y. now (settles c s t a h y))
    (λ y. takes_later c w r a v (freed_at_grows s (after_one c s t) r v (grows_step c s t h) f) y q z)
    (or_cases (commits_it a t) (any (commits_it a) ts) m)
  where
    now : Settles c s t a → e.order (8 + r) (8 + a) ≡ true
    now S =
        let g = grows c w in
        let n = input c (view c s) S.proc a S.source 0 in
        let takes : acquiring (kind_of (s.actions a)) ≡ true = ap (λ (i : Instr). acquiring (kind i)) (sym (instr_then c s e t g a S)) ∙ q in
        let at : some v ≡ some n = sym z ∙ result_then c s e t g a S ∙ ap (λ (n : ℕ). some n) (acquire_result c (view c s) S.proc a S.source (s.actions a).instr takes) in
        let edge = taken_edge c s S.proc a S.source takes r f.low f.frees (ap (is n) (f.location ∙ at) ∙ eq-eqb n n refl) in
        g.order (8 + r) (8 + a) (subst (λ (x : OneState). x.order (8 + r) (8 + a) ≡ true) (sym S.is_after) edge)

pub hand_over_lem : (c : Case) {s e : OneState} {ts : List Step} → Walk (womm_one c) s ts e → (r a : ℕ) → in_turn ts r a ≡ true → releasing (kind_of (e.actions r)) ≡ true → acquiring (kind_of (e.actions a)) ≡ true → (e.actions r).result ≡ (e.actions a).result → e.order (8 + r) (8 + a) ≡ true
hand_over_lem c (stop h) r a m f q z = absurd (false≢true m)
hand_over_lem c {s} {e} (go {t = t} {ts = ts} h w) r a m f q z =
    ⊎_elim (λ y. let b = and_both (commits_it r t) (any (commits_it a) ts) y in now (settles c s t r h b.0) b.1) (λ y. hand_over_lem c w r a y f q z) (or_cases (commits_it r t && any (commits_it a) ts) (in_turn ts r a) m)
  where
    now : Settles c s t r → any (commits_it a) ts ≡ true → e.order (8 + r) (8 + a) ≡ true
    now S y =
        let g = grows c w in
        takes_later c w r a (given c s e t g r S)
        (record {
          low = low_then c s e t g r S;
          frees = ap (λ (i : Instr). releasing (kind i)) (ap (λ (x : Action). x.instr) (settled_then c s e t g r S) ∙ sym (instr_then c s e t g r S)) ∙ f;
          location = ap (λ (x : Action). x.result) (settled_then c s e t g r S);
        })
        y q (sym z ∙ result_then c s e t g r S)
