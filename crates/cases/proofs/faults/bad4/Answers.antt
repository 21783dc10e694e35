use Rattle.cases.specs.Block.{bad4}
use Rattle.cases.proofs.faults.bad4.Goals as goal

pub returns : goal.returns
unfolding bad4
returns c =
    rw (c.marked.ensures, c.no_proc.ensures, c.saturating_sub.ensures, c.number.ensures.is, c.within.ensures)
