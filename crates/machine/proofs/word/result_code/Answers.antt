use mathlib.Core.Path.{◌≡◌, refl}
use mathlib.Core.Bool.{Bool, true, false, cond}
use mir.Val.{bool_byte}
use Prim.Native.Nat.{◌<◌}
use native.Mathlib.Omega.{arith}
use Rattle.machine.proofs.word.result_code.Goals as goal

bit : (b : Bool) → bool_byte b ≡ cond b 1 0
bit true = refl
bit false = refl

low : (b : Bool) → bool_byte b < 2
low true = omega arith
low false = omega arith

pub returns : goal.returns
returns c = (rw (bit c.args.done), omega (arith, low c.args.done))
