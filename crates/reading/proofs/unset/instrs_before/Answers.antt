use native.Mathlib.Omega.{arith}
use Rattle.reading.proofs.Sums.{sum_none, sum_more}
use borrow.Author.Rules.{rules}
use Rattle.reading.proofs.unset.instrs_before.Goals as goal

pub loop-i-init : goal.loop-i-init
loop-i-init c = (sum_none c.args.counts.now, search rules)

pub loop-i-preserved : goal.loop-i-preserved
loop-i-preserved c = (sum_more c.args.counts.now c.loop-i.i c.loop-i.sum c.loop-i.invariant.0, omega (arith, c.type_inv.counts c.loop-i.i))
