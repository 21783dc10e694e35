use Rattle.orders.proofs.Trailing.{least_trailing}
use lib.Count.{trailing_le}
use native.Mathlib.Omega.{arith}
use Rattle.orders.proofs.lowest.Goals as goal

pub overflow_cast-result : goal.overflow_cast-result
overflow_cast-result c = omega (arith, trailing_le 64 c.args.x)

pub returns : goal.returns
returns c = least_trailing c.args.x c.ranges.x.fits
