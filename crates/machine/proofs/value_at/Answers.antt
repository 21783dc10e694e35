use mathlib.Core.Path.{◌∙◌, ap, sym}
use lib.ListN.{get_or}
use Rattle.rules.specs.State.{Action}
use Rattle.machine.specs.declared.Entry.{Entry}
use Rattle.machine.specs.Shown.{option_of}
use Rattle.machine.specs.Word.{entry_of}
use Rattle.machine.proofs.Entries.{action_at_lem, action_out, done_some, done_none}
use Rattle.machine.proofs.value_at.Goals as goal

pub returns-then-e : goal.returns-then-e
returns-then-e c =
    let a = c.args in
    λ k s h. done_some c.entry_at-e.result c.if-e.true ∙ ap (λ (e : Entry). option_of e.done e.result) c.entry_at-e.ensures ∙ ap (λ (x : Action). x.result) (sym (action_at_lem k a.m.now.issued a.m.now.acts s h a.k c.if-k-m.true))

pub returns-else-e : goal.returns-else-e
returns-else-e c =
    let a = c.args in
    λ k s h. done_none c.entry_at-e.result c.if-e.false ∙ ap (λ (e : Entry). option_of e.done e.result) c.entry_at-e.ensures ∙ ap (λ (x : Action). x.result) (sym (action_at_lem k a.m.now.issued a.m.now.acts s h a.k c.if-k-m.true))

pub returns-else-k-m : goal.returns-else-k-m
returns-else-k-m c = let a = c.args in λ k s h. ap (λ (x : Action). x.result) (sym (action_out k a.m.now.issued a.m.now.acts s h a.k c.if-k-m.false))
