use mathlib.Core.Path.{◌≡◌, ap}
use mathlib.Core.Bool.{Bool, not}
use mathlib.Core.List.{List}
use Prim.Native.Nat.{ℕ, ◌<◌}
use native.Mathlib.Omega.{arith}
use Rattle.orders.specs.Rows.{order_of}
use Rattle.orders.proofs.Walks.{sift_none, sift_more, sift_all}
use Rattle.sights.proofs.not_after.Goals as goal

-- item a does not stand after item i
abbrev early : List ℕ → ℕ → ℕ → Bool
early rows i a = not (order_of rows i a)

pub loop-rest-init : goal.loop-rest-init
loop-rest-init c = sift_none c.args.items (early c.args.rows.now c.args.i)

pub with_unless-seen-requires : goal.with_unless-seen-requires
with_unless-seen-requires c =
    let p : 0 < c.loop-rest.rest = omega arith in
    c.lowest-e.ensures.low p

pub loop-rest-preserved : goal.loop-rest-preserved
loop-rest-preserved c =
    let a = c.args in
    let p : 0 < c.loop-rest.rest = omega arith in
    let e = c.lowest-e in
    let late = c.before-in-loop-rest in
    sift_more c.loop-rest.rest e.result c.others-rest.result e.ensures p (c.others-rest.ensures.1 e.result e.ensures) a.items (early a.rows.now a.i) c.loop-rest.seen c.with_unless-seen.result (not late.result) (ap not late.ensures) c.with_unless-seen.ensures c.loop-rest.invariant

pub returns : goal.returns
returns c =
    let q : c.loop-rest.rest ≡ 0 = omega arith in
    sift_all q c.loop-rest.invariant
