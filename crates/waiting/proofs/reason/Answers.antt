use mathlib.Core.Path.{◌∙◌, sym, ap}
use native.Mathlib.Omega.{arith}
use Rattle.rules.specs.Kinds.{kind, acquiring}
use Rattle.machine.specs.declared.Entry.{Entry}
use Rattle.rules.specs.State.{Action, kind_of}
use Rattle.machine.proofs.Entries.{action_at_lem}
use Rattle.waiting.proofs.Reasons.{nothing-queued, reason-behind}
use Rattle.waiting.proofs.reason.Goals as goal

pub returns-in-None : goal.returns-in-None
returns-in-None c = λ k s q h e. nothing-queued k s c.args.p (omega (arith, c.in-None.ensures.lowest k s h))

pub returns-in-Some : goal.returns-in-Some
returns-in-Some c =
    let a = c.args in
    let i = c.in-Some.k in
    λ k s q h e.
    c.behind.ensures
    ∙ reason-behind k s a.p i c.commit_code-code.result _
    (c.in-Some.ensures.lowest k s h)
    (omega (arith, h.count, c.in-Some.ensures.there))
    (c.commit_code-code.ensures k s q h e)
    (c.acquires.ensures ∙ ap (λ (x : Entry). acquiring (kind x.instr)) c.entry_at.ensures ∙ ap (λ (x : Action). acquiring (kind_of x)) (sym (action_at_lem k a.m.now.issued a.m.now.acts s h i c.in-Some.ensures.there)))
