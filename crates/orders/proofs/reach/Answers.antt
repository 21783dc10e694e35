use mathlib.Core.Path.{◌≡◌, subst}
use Rattle.std.proofs.lemmas.Nat.{or_comm}
use mathlib.Core.Bool.{◌&&◌}
use mathlib.Core.List.{List}
use Prim.Native.Nat.{ℕ, ◌<◌}
use native.Mathlib.Omega.{arith}
use lib.Dec.{ltb}
use Rattle.rules.specs.Order.{Order, up_to}
use Rattle.orders.specs.Rows.{order_of}
use Rattle.orders.proofs.Walks.{Covers, in_some, cover_none, cover_more, found_all, reaches_all}
use Rattle.orders.proofs.reach.Goals as goal

-- item a is w, or stands before it, in the order that the rows hold
abbrev near : List ℕ → Order
near rows a w = ltb w 56 && up_to (order_of rows) a w

pub loop-rest-init : goal.loop-rest-init
loop-rest-init c = cover_none (near c.args.rows.now) c.args.items

pub loop-rest-preserved : goal.loop-rest-preserved
loop-rest-preserved c =
    let a = c.args in
    let p : 0 < c.loop-rest.rest = omega arith in
    let e = c.lowest in
    subst (λ (m : ℕ). Covers (near a.rows.now) a.items c.others-rest.result m) (or_comm c.up_to-mask.result c.loop-rest.mask)
    (cover_more c.loop-rest.rest e.result c.others-rest.result e.ensures p (c.others-rest.ensures.1 e.result e.ensures) (near a.rows.now) a.items c.up_to-mask.result c.loop-rest.mask c.up_to-mask.ensures c.loop-rest.invariant)

pub returns : goal.returns
returns c =
    let a = c.args in
    let q : c.loop-rest.rest ≡ 0 = omega arith in
    λ P h. reaches_all (order_of a.rows.now) a.n a.items c.loop-rest.mask P c.requires h
    (λ x. found_all c.loop-rest.rest (near a.rows.now x) _ (in_some a.items (near a.rows.now x)) q (c.loop-rest.invariant x))
