use mathlib.Core.Path.{◌∙◌, sym, ap}
use Rattle.rules.specs.State.{kind_of}
use Rattle.machine.specs.Shown.{shown_entry}
use Rattle.machine.proofs.Entries.{action_at_lem}
use Rattle.spending.proofs.Rests.{rest_none, rest_issue, rest_acquire, unissued-kind}
use Rattle.spending.proofs.rest.Goals.{else-k-m-via-then-k-m+else-kind_at-eq6, else-k-m-via-else-k-m}
use Rattle.spending.proofs.rest.Goals as goal

pub returns-then-j-ge49 : goal.returns-then-j-ge49
returns-then-j-ge49 c =
    λ k s q h fits. rest_issue s c.args.spent.now c.requires.long c.args.m.now.issued c.still_spent.result c.args.j h.count c.if-j-ge49.true c.still_spent.ensures

pub returns-else-k-m : goal.returns-else-k-m
returns-else-k-m c =
    let a = c.action_at-k in
    let n = c.args.m.now.issued in
    λ k s q h fits. rest_none s c.args.spent.now c.requires.long c.args.j a.result c.if-j-ge49.false a.ensures
    (elim c.else-k-m.branch [
      | else-k-m-via-then-k-m+else-kind_at-eq6 w ↦ λ z. w.if-kind_at-eq6.false (w.kind_at.ensures.0 ∙ sym (ap kind_of (action_at_lem k n c.args.m.now.acts s h a.result w.if-k-m.true)) ∙ z)
      | else-k-m-via-else-k-m w ↦ unissued-kind k n c.args.m.now.acts s a.result h w.if-k-m.false
    ])

pub returns-then-kind_at-eq6 : goal.returns-then-kind_at-eq6
returns-then-kind_at-eq6 c =
    let e = c.entry_at in
    let a = c.action_at-k in
    λ k s q h fits. rest_acquire s c.args.spent.now c.requires.long k c.args.m.now.issued c.args.m.now.acts e.result c.woken-gone.result c.clear.new.spent c.args.j a.result h c.if-j-ge49.false a.ensures
    (action_at_lem k c.args.m.now.issued c.args.m.now.acts s h a.result c.if-k-m.true ∙ ap (shown_entry k) (sym e.ensures)) (c.woken-gone.ensures k s q h) c.clear.ensures
