use Rattle.std.proofs.Common.{rules}
use Rattle.scanning.proofs.Scanning.{value_more, value_all}
use Rattle.scanning.proofs.scan.value.Goals as goal

pub loop-b-preserved : goal.loop-b-preserved
loop-b-preserved c = (search rules, value_more c.word-b-items.result.now c.loop-b.b-index c.loop-b.v _ c.loop-b-test.true c.loop-b.invariant.1)

pub returns : goal.returns
returns c = (value_all c.word-b-items.result.now c.loop-b.b-index c.loop-b.v _ c.loop-b-test.false c.loop-b.invariant.1, c.loop-b.invariant.0)
