use mathlib.Core.Path.{◌≡◌, ◌∙◌, sym, ap, subst}
use mathlib.Core.Bool.{true, false}
use Prim.Native.Nat.{ℕ}
use native.Mathlib.Omega.{arith}
use Rattle.words.specs.Small.{some_below}
use Rattle.rules.specs.State.{State}
use Rattle.words.proofs.Bools.{below_make}
use Rattle.cases.specs.declared.Case.{Case}
use Rattle.orders.proofs.Reached.{below_none, below_next}
use Rattle.machine.specs.declared.Entry.{Entry}
use Rattle.machine.specs.Shown.{shown_entry, Acts}
use Rattle.machine.proofs.Entries.{action_at_lem}
use Rattle.racing.proofs.Answers.{waits, queued_is}
use borrow.Author.Rules.{rules}
use Rattle.racing.proofs.queued.Goals as goal
use Rattle.racing.proofs.queued.Goals.{After-queued}

pub loop-k-init : goal.loop-k-init
loop-k-init c = (search rules, λ k s h. below_none (λ j. waits (s.actions j)))

waits_at : (c : After-queued) (k : Case) (s : State) → Acts k c.args.m.now.issued c.args.m.now.acts s → c.queued.result ≡ waits (s.actions c.loop-k.k)
waits_at c k s h =
    c.queued.ensures k
    ∙ ap (λ (e : Entry). waits (shown_entry k e)) c.entry_at-e.ensures
    ∙ ap waits (sym (action_at_lem k c.args.m.now.issued c.args.m.now.acts s h c.loop-k.k (omega arith)))

pub returns-then-queued : goal.returns-then-queued
returns-then-queued c =
    λ k s h. queued_is s true (sym (below_make s.count (λ j. waits (s.actions j)) c.loop-k.k (omega (arith, h.count)) (sym (waits_at c.before k s h) ∙ c.if-queued.true)))

pub loop-k-preserved : goal.loop-k-preserved
loop-k-preserved c =
    (search rules, λ k s h. below_next c.loop-k.k (λ j. waits (s.actions j)) false false (c.loop-k.invariant.1 k s h) (sym c.if-queued.false ∙ waits_at c.before k s h))

pub returns : goal.returns
returns c =
    let a = c.args in
    let q : c.loop-k.k ≡ a.m.now.issued = omega arith in
    λ k s h. queued_is s false (subst (λ (n : ℕ). false ≡ some_below n (λ j. waits (s.actions j))) (q ∙ sym h.count) (c.loop-k.invariant.1 k s h))
