use mathlib.Core.Path.{sym}
use native.Mathlib.Omega.{arith}
use lib.ListN.{get_or-eq_default}
use Rattle.issuing.proofs.name_at.Goals as goal

pub returns-else-n-lt32 : goal.returns-else-n-lt32
returns-else-n-lt32 c = let a = c.args in sym (get_or-eq_default a.names.now 0 (omega (arith, c.requires, c.if-n-lt32.false)))
