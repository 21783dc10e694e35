use Rattle.cases.specs.Block.{bad7}
use Rattle.cases.proofs.faults.bad7.Goals as goal

pub returns : goal.returns
unfolding bad7
returns c =
    rw (c.marked.ensures, c.within-2.ensures, c.within.ensures, c.used-used.ensures, c.saturating_sub-2.ensures, c.saturating_sub.ensures)
