use Rattle.rules.specs.Kinds.{kind}
use mathlib.Core.Path.{refl, sym, ◌∙◌, ap, subst}
use Prim.Native.Nat.{ℕ, ◌+◌, ◌*◌, ◌-◌, ◌/◌, ◌%◌}
use native.Mathlib.Omega.{arith}
use borrow.Author.Tests.{eq-eqb, ne_eqb}
use Rattle.rules.specs.State.{Action, kind_of}
use Rattle.machine.specs.declared.Entry.{Entry}
use Rattle.machine.specs.Shown.{shown}
use Rattle.machine.proofs.Entries.{action_at_lem}
use Rattle.asking.specs.Inner.{RowSpan}
use Rattle.asking.proofs.Rows.{row_of_lem, row_issues, row_none, row_read, row_other}
use Rattle.asking.proofs.row_span.Goals as goal

-- One span for each return. Assumes nothing.
pub returns-then-i-eq0 : goal.returns-then-i-eq0
returns-then-i-eq0 c = let a = c.args in subst (λ (i : ℕ). RowSpan a.case.now (shown a.case.now a.m.now) i _) (sym c.if-i-eq0.true) (row_issues a.case.now (shown a.case.now a.m.now) c.requires.valid.issued c.requires.valid.fit.procs)

pub returns-then-m-k : goal.returns-then-m-k
returns-then-m-k c =
    let a = c.args in
    let s = shown a.case.now a.m.now in
    let k = (a.i - 1) % 48 in
    let p = (a.i - 1) / 48 in
    let at = action_at_lem a.case.now a.m.now.issued a.m.now.acts s (record { count = refl; actions = refl }) k in
    subst (λ (i : ℕ). RowSpan a.case.now s i _) (row_of_lem a.i c.if-i-eq0.false)
    (row_none a.case.now s c.requires.valid.issued p k (omega arith) (λ l own. absurd (omega (arith, l, c.if-m-k.true))))

pub returns-then-wide-p : goal.returns-then-wide-p
returns-then-wide-p c =
    let own_entry = c.entry_at-e in
    let a = c.args in
    let s = shown a.case.now a.m.now in
    let k = (a.i - 1) % 48 in
    let p = (a.i - 1) / 48 in
    let at = action_at_lem a.case.now a.m.now.issued a.m.now.acts s (record { count = refl; actions = refl }) k in
    subst (λ (i : ℕ). RowSpan a.case.now s i _) (row_of_lem a.i c.if-i-eq0.false)
    (row_none a.case.now s c.requires.valid.issued p k (omega arith) (λ l own. c.if-wide-p.true (c.wide.ensures.0 ∙ ap (λ (x : Entry). x.proc) own_entry.ensures ∙ sym (ap (λ (x : Action). x.proc) (at l)) ∙ own)))

pub returns-then-kind_of-eq1 : goal.returns-then-kind_of-eq1
returns-then-kind_of-eq1 c =
    let own_entry = c.entry_at-e in
    let a = c.args in
    let s = shown a.case.now a.m.now in
    let k = (a.i - 1) % 48 in
    let p = (a.i - 1) / 48 in
    let at = action_at_lem a.case.now a.m.now.issued a.m.now.acts s (record { count = refl; actions = refl }) k c.if-m-k.false in
    subst (λ (i : ℕ). RowSpan a.case.now s i (record { start = 64 * k; end = 64 * k + 64 })) (row_of_lem a.i c.if-i-eq0.false)
    (row_read a.case.now s c.requires.valid.issued p k (omega arith) (ap (λ (x : Action). x.proc) at ∙ sym (ap (λ (x : Entry). x.proc) own_entry.ensures) ∙ sym c.wide.ensures.0 ∙ c.if-wide-p.false) c.requires.reached (eq-eqb (kind_of (s.actions k)) 1 (ap kind_of at ∙ sym (ap (λ (x : Entry). kind x.instr) own_entry.ensures) ∙ sym c.kind_of.ensures.0 ∙ c.if-kind_of-eq1.true)))

pub returns : goal.returns
returns c =
    let own_entry = c.entry_at-e in
    let a = c.args in
    let s = shown a.case.now a.m.now in
    let k = (a.i - 1) % 48 in
    let p = (a.i - 1) / 48 in
    let at = action_at_lem a.case.now a.m.now.issued a.m.now.acts s (record { count = refl; actions = refl }) k c.if-m-k.false in
    subst (λ (i : ℕ). RowSpan a.case.now s i (record { start = 3072 + k; end = 3073 + k })) (row_of_lem a.i c.if-i-eq0.false)
    (row_other a.case.now s c.requires.valid.issued p k (omega arith) (ap (λ (x : Action). x.proc) at ∙ sym (ap (λ (x : Entry). x.proc) own_entry.ensures) ∙ sym c.wide.ensures.0 ∙ c.if-wide-p.false) (ne_eqb (kind_of (s.actions k)) 1 (λ e. c.if-kind_of-eq1.false (c.kind_of.ensures.0 ∙ ap (λ (x : Entry). kind x.instr) own_entry.ensures ∙ sym (ap kind_of at) ∙ e))))
