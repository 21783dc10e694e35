use mathlib.Core.Path.{◌∙◌, sym, ap}
use native.Mathlib.Omega.{arith}
use Rattle.cases.proofs.Lowest.{lowest_is}
use Rattle.rules.specs.State.{waiting}
use Rattle.machine.specs.declared.Entry.{Entry}
use Rattle.machine.specs.Shown.{shown_entry}
use Rattle.machine.proofs.Entries.{action_at_lem}
use Rattle.waiting.proofs.Reasons.{none_more}
use borrow.Author.Rules.{rules}
use Rattle.waiting.proofs.oldest.Goals as goal

pub loop-k-init : goal.loop-k-init
loop-k-init c = (search rules, λ k s h j l. absurd (omega arith))

pub returns-then-queued-clause-lowest : goal.returns-then-queued-clause-lowest
returns-then-queued-clause-lowest c =
    let a = c.args in
    λ k s h.
    lowest_is s.count (λ j. waiting a.p (s.actions j)) c.loop-k.k (omega (arith, h.count)) (c.loop-k.invariant.1 k s h)
    (λ l. ap (waiting a.p) (action_at_lem k a.m.now.issued a.m.now.acts s h c.loop-k.k (omega (arith, h.count))) ∙ sym (c.queued.ensures k ∙ ap (λ (e : Entry). waiting a.p (shown_entry k e)) c.entry_at.ensures) ∙ c.if-queued.true)

pub loop-k-preserved : goal.loop-k-preserved
loop-k-preserved c =
    let a = c.args in (
      search rules,
      λ k s h.
          none_more (λ j. waiting a.p (s.actions j)) c.loop-k.k (c.loop-k.invariant.1 k s h)
          (ap (waiting a.p) (action_at_lem k a.m.now.issued a.m.now.acts s h c.loop-k.k (omega arith)) ∙ sym (c.queued.ensures k ∙ ap (λ (e : Entry). waiting a.p (shown_entry k e)) c.entry_at.ensures) ∙ c.if-queued.false),
    )

pub returns-clause-lowest : goal.returns-clause-lowest
returns-clause-lowest c =
    let a = c.args in
    λ k s h.
    lowest_is s.count (λ j. waiting a.p (s.actions j)) s.count (omega arith)
    (λ j l. c.loop-k.invariant.1 k s h j (omega arith))
    (λ l. absurd (omega (arith, h.count)))
