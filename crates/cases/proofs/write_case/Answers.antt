use Rattle.cases.proofs.Written.{unwritten, written_by}
use Rattle.cases.proofs.write_case.Goals as goal

pub returns-then-block-eq512 : goal.returns-then-block-eq512
returns-then-block-eq512 c =
    let a = c.args in
    written_by a.case a.block.now c.seal.new.block c.seal.result c.fill.new.block c.if-block-eq512.true c.fill.ensures.long c.fill.ensures.holds c.seal.ensures

pub returns-else-block-eq512 : goal.returns-else-block-eq512
returns-else-block-eq512 c =
    let a = c.args in
    unwritten a.case a.block.now c.clear.new.block c.if-block-eq512.false c.clear.ensures
