use Rattle.cases.specs.Block.{bad3}
use Rattle.cases.proofs.faults.bad3.Goals as goal

pub returns : goal.returns
unfolding bad3
returns c =
    rw (c.marked.ensures, c.number-bound.ensures.is, c.number-locs.ensures.is, c.number-procs.ensures.is)
