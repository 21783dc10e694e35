use mathlib.Core.Path.{◌≡◌}
use Prim.Native.Nat.{◌<◌}
use native.Mathlib.Omega.{arith}
use Rattle.std.proofs.lemmas.Nat.{or_comm}
use Rattle.orders.specs.Rows.{order_of}
use Rattle.orders.proofs.Walks.{in_some, cover_none, cover_more, found_all}
use Rattle.sights.proofs.covered.Goals as goal

pub loop-rest-init : goal.loop-rest-init
loop-rest-init c = cover_none (order_of c.args.rows.now) c.args.items

pub loop-rest-preserved : goal.loop-rest-preserved
loop-rest-preserved c =
    let a = c.args in
    let p : 0 < c.loop-rest.rest = omega arith in
    let e = c.lowest in
    rw (or_comm c.loop-rest.mask c.row_at-mask.result) (cover_more c.loop-rest.rest e.result c.others-rest.result e.ensures p (c.others-rest.ensures.1 e.result e.ensures) (order_of a.rows.now) a.items c.row_at-mask.result c.loop-rest.mask c.row_at-mask.ensures c.loop-rest.invariant)

pub returns : goal.returns
returns c =
    let a = c.args in
    let q : c.loop-rest.rest ≡ 0 = omega arith in
    λ x. found_all c.loop-rest.rest (order_of a.rows.now x) _ (in_some a.items (order_of a.rows.now x)) q (c.loop-rest.invariant x)
