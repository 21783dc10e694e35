use Rattle.rules.specs.Kinds.{assigns}
use mathlib.Core.Path.{◌∙◌, sym, ap}
use mathlib.Core.Bool.{false≢true}
use borrow.Author.Tests.{not-true}
use Rattle.rules.specs.State.{Action, kind_of}
use Rattle.machine.specs.Shown.{shown_entry}
use Rattle.machine.proofs.Entries.{action_at_lem}
use Rattle.sure.specs.Dead.{ignorable, holds_on}
use Rattle.needless.proofs.may_join.Goals.{then-is_ignorable, else-is_ignorable, then-not-e, else-not-e}
use Rattle.needless.proofs.may_join.Goals as goal

pub returns-then-not-holds_on : goal.returns-then-not-holds_on
returns-then-not-holds_on c =
    let a = c.args in
    λ k s h n t.
    let z = action_at_lem k a.m.now.issued a.m.now.acts s h a.k c.requires.there ∙ ap (shown_entry k) (sym c.entry_at-e.ensures) in
    elim c.if-is_ignorable.branch [
      | then-is_ignorable w ↦ elim c.if-not-e.branch [
        | then-not-e v ↦ record {
          kinds = ap (λ (x : Action). ignorable (kind_of x)) z ∙ sym v.is_ignorable.ensures ∙ sym v.value-is ∙ w.if-is_ignorable.true;
          renamed = ap (λ (x : Action). holds_on s a.k (assigns x.instr)) z ∙ sym (w.holds_on.ensures k s n z) ∙ not-true w.holds_on.result (sym w.value-is ∙ c.if-not-holds_on.true);
          unread = sym (c.awaited.ensures k s h) ∙ not-true c.awaited.result t;
        }
        | else-not-e v ↦ absurd (false≢true (sym v.if-not-e.false ∙ sym v.value-is ∙ w.if-is_ignorable.true))
      ]
      | else-is_ignorable w ↦ absurd (false≢true (sym w.if-is_ignorable.false ∙ sym w.value-is ∙ c.if-not-holds_on.true))
    ]
