use mathlib.Core.Path.{sym}
use native.Mathlib.Omega.{arith}
use Rattle.committing.proofs.Settling.{set_past}
use Rattle.committing.proofs.put_holder.Goals as goal

pub returns-else-x-lt8 : goal.returns-else-x-lt8
returns-else-x-lt8 c = let a = c.args in sym (set_past a.h a.x a.v (omega (arith, c.requires, c.if-x-lt8.false)))
