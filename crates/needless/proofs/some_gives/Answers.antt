use mathlib.Core.Path.{◌≡◌, refl, ap, ◌∙◌}
use mathlib.Core.Bool.{Bool, ◌||◌}
use Prim.Native.Nat.{◌<◌}
use native.Mathlib.Omega.{arith}
use Rattle.orders.proofs.Walks.{in_some, found_more, found_all}
use Rattle.needless.proofs.Echoing.{takes, gives_all, or_turn}
use Rattle.needless.proofs.some_gives.Goals as goal

pub loop-rest-init : goal.loop-rest-init
loop-rest-init c = λ x s m h. refl

pub loop-rest-preserved : goal.loop-rest-preserved
loop-rest-preserved c =
    let a = c.args in
    let p : 0 < c.loop-rest.rest = omega arith in
    let e = c.lowest in
    λ x s m h. ap (λ (b : Bool). b || in_some c.others-rest.result (takes x s a.v)) (or_turn c.loop-rest.found c.gives-found.result) ∙ found_more c.loop-rest.rest e.result c.others-rest.result e.ensures p (c.others-rest.ensures.1 e.result e.ensures) (takes x s a.v) c.gives-found.result c.loop-rest.found _ (c.gives-found.ensures x s m h) (c.loop-rest.invariant x s m h)

pub returns : goal.returns
returns c =
    let a = c.args in
    let q : c.loop-rest.rest ≡ 0 = omega arith in
    λ x s m h. found_all c.loop-rest.rest (takes x s a.v) c.loop-rest.found _ q (c.loop-rest.invariant x s m h) ∙ gives_all x s a.word a.done a.v
