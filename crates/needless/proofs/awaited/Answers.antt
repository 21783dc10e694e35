use borrow.Author.Rules.{rules}
use Rattle.machine.proofs.Entries.{action_at_lem}
use Rattle.orders.proofs.Reached.{below_none, below_next}
use Rattle.sure.specs.Dead.{awaits as is_awaiting}
use Rattle.words.specs.Small.{some_below}
use Rattle.words.proofs.Bools.{below_make}
use Rattle.words.specs.Sets.{has}
use Rattle.machine.specs.Shown.{shown_entry}
use mathlib.Core.Bool.{Bool, false, ◌&&◌, ◌||◌, not}
use native.Mathlib.Omega.{arith}
use Prim.Native.Nat.{ℕ}
use mathlib.Core.Path.{◌≡◌, ◌∙◌, sym, ap, subst}
use Rattle.needless.proofs.awaited.Goals as goal

pub loop-j-init : goal.loop-j-init
loop-j-init c = (search rules, λ k s h. sym (below_none (λ i. is_awaiting c.args.k (s.actions i) && not (has c.args.inner i))))

pub returns-then-awaits-has : goal.returns-then-awaits-has
returns-then-awaits-has c =
    let a = c.args in
    let j = c.loop-j.j in
    λ k s h.
    let p = c.awaits.ensures k ∙ ap (is_awaiting a.k) (ap (shown_entry k) c.entry_at.ensures ∙ sym (action_at_lem k a.m.now.issued a.m.now.acts s h j c.loop-j-test.true)) in
    sym (below_make s.count (λ i. is_awaiting a.k (s.actions i) && not (has a.inner i)) j (omega (arith, h.count, c.loop-j-test.true)) (sym (λ i. p i && not (c.has.ensures i)) ∙ c.if-awaits-has.true))

pub loop-j-preserved : goal.loop-j-preserved
loop-j-preserved c =
    let a = c.args in
    let j = c.loop-j.j in (
      search rules,
      λ k s h.
          let p = c.awaits.ensures k ∙ ap (is_awaiting a.k) (ap (shown_entry k) c.entry_at.ensures ∙ sym (action_at_lem k a.m.now.issued a.m.now.acts s h j c.loop-j-test.true)) in
          sym (below_next j (λ i. is_awaiting a.k (s.actions i) && not (has a.inner i)) false _ (sym (c.loop-j.invariant.1 k s h)) (λ i. p i && not (c.has.ensures i))) ∙ ap (λ (b : Bool). b || false) c.if-awaits-has.false,
    )

pub returns : goal.returns
returns c =
    let a = c.args in
    let q : c.loop-j.j ≡ a.m.now.issued = omega arith in
    λ k s h. sym (subst (λ (n : ℕ). some_below n (λ i. is_awaiting a.k (s.actions i) && not (has a.inner i)) ≡ false) (q ∙ sym h.count) (c.loop-j.invariant.1 k s h))
