use Rattle.cases.specs.Block.{bad5}
use Rattle.cases.proofs.faults.bad5.Goals as goal

pub returns : goal.returns
unfolding bad5
returns c = cc
