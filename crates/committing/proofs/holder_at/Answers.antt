use mathlib.Core.Path.{sym}
use native.Mathlib.Omega.{arith}
use lib.ListN.{get_or-eq_default}
use Rattle.committing.proofs.holder_at.Goals as goal

pub returns-else-x-lt8 : goal.returns-else-x-lt8
returns-else-x-lt8 c = let a = c.args in sym (get_or-eq_default a.holders.now 0 (omega (arith, c.requires, c.if-x-lt8.false)))
