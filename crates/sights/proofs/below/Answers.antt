use lib.Pow.{pow_pos}
use native.Mathlib.Omega.{arith}
use mathlib.Core.Path.{◌∙◌, ap}
use mathlib.Core.Bool.{Bool, ◌&&◌}
use Prim.Native.Nat.{ℕ, ◌-◌}
use Rattle.words.specs.Sets.{has}
use Rattle.orders.proofs.Bits.{has_and, has_ones}
use Rattle.sights.proofs.below.Goals as goal

pub overflow_sub-result : goal.overflow_sub-result
overflow_sub-result c = omega (arith, c.one.ensures, pow_pos c.args.n)

pub returns : goal.returns
returns c =
    let s = c.args in
    λ a. has_and s.x (c.one.result - 1) a ∙ ap (λ (b : Bool). has s.x a && b) (ap (λ (n : ℕ). has (n - 1) a) c.one.ensures ∙ has_ones s.n a)
