use mathlib.Core.Path.{◌≡◌, ◌∙◌, sym, ap, subst}
use Prim.Native.Nat.{ℕ, ◌+◌}
use mathlib.Core.Bool.{Bool, ◌&&◌}
use lib.Dec.{eqb}
use native.Mathlib.Omega.{arith}
use Rattle.rules.specs.State.{Action, stands_at}
use Rattle.oneorder.specs.OneOrder.{has_item}
use Rattle.orders.specs.Rows.{SetOf}
use Rattle.machine.specs.Shown.{shown_entry}
use Rattle.machine.proofs.Entries.{action_at_lem}
use Rattle.machine.proofs.Items.{item_is_lem}
use Rattle.issuing.specs.Issued.{after}
use Rattle.issuing.proofs.Ordering.{initial_items}
use Rattle.issuing.proofs.earlier.Goals as goal

pub loop-k-init : goal.loop-k-init
loop-k-init c = λ k s new h w. initial_items c.args.p new s c.args.writes w

pub loop-k-preserved : goal.loop-k-preserved
loop-k-preserved c =
    let a = c.args in
    let n = c.loop-k.k in
    let f : Action → Bool = λ x. eqb x.proc a.p && has_item x in
    let q : 8 + n + 1 ≡ 8 + (n + 1) = omega arith in
    λ k s new h w. subst (λ (x : ℕ). SetOf x (after a.p new s) c.with-items.result) q
    (c.with-items.ensures (after a.p new s) (c.loop-k.invariant k s new h w)
    (c.own.ensures k ∙ ap f (ap (shown_entry k) c.entry_at.ensures ∙ sym (action_at_lem k a.issued a.acts.now s h n c.loop-k-test.true)) ∙ sym (item_is_lem f s (stands_at (8 + n) new) n)))

pub returns : goal.returns
returns c =
    let a = c.args in
    let q : c.loop-k.k ≡ a.issued = omega arith in
    λ k s new h w. subst (λ (n : ℕ). SetOf (8 + n) (after a.p new s) c.loop-k.items) q (c.loop-k.invariant k s new h w)
