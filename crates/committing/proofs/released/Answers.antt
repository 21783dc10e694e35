use Rattle.rules.specs.Kinds.{releasing}
use mathlib.Core.Path.{◌≡◌, ◌∙◌, sym, ap, subst}
use Prim.Native.Nat.{ℕ, ◌+◌}
use mathlib.Core.Bool.{false, ◌&&◌}
use native.Mathlib.Omega.{arith}
use Rattle.words.specs.Small.{is}
use Rattle.rules.specs.State.{Action, kind_of}
use Rattle.orders.specs.Rows.{SetOf}
use Rattle.machine.specs.Shown.{shown_entry}
use Rattle.machine.proofs.Entries.{action_at_lem}
use Rattle.machine.proofs.Items.{item_is_lem, no_item}
use Rattle.committing.specs.Committed.{releases}
use Rattle.committing.proofs.released.Goals as goal

pub loop-k-init : goal.loop-k-init
loop-k-init c = let a = c.args in λ k s h. no_item (λ y. releasing (kind_of y) && is a.x y.result) s

pub loop-k-preserved : goal.loop-k-preserved
loop-k-preserved c =
    let a = c.args in
    let n = c.loop-k.k in
    let q : 8 + n + 1 ≡ 8 + (n + 1) = omega arith in
    λ k s h. subst (λ (z : ℕ). SetOf z (releases s a.x) c.with-items.result) q
    (c.with-items.ensures (releases s a.x) (c.loop-k.invariant k s h)
    (c.frees.ensures k ∙ ap (λ (y : Action). releasing (kind_of y) && is a.x y.result) (ap (shown_entry k) c.entry_at.ensures ∙ sym (action_at_lem k a.issued a.acts.now s h n (omega arith))) ∙ sym (item_is_lem (λ y. releasing (kind_of y) && is a.x y.result) s false n)))

pub returns : goal.returns
returns c =
    let a = c.args in
    let q : c.loop-k.k ≡ a.issued = omega arith in
    λ k s h. subst (λ (n : ℕ). SetOf (8 + n) (releases s a.x) c.loop-k.items) q (c.loop-k.invariant k s h)
