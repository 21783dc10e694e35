use mathlib.Core.Path.{◌∙◌, ap}
use Prim.Native.Nat.{ℕ}
use lib.Dec.{eqb}
use Rattle.words.specs.Small.{or_zero}
use Rattle.needless.proofs.gives.Goals as goal

pub returns : goal.returns
returns c =
    let a = c.args in
    λ x s q h. ap (λ (x : ℕ). eqb a.v x) (c.or_zero.ensures ∙ ap or_zero (c.item_value.ensures x s q h))
