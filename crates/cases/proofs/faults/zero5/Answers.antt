use Rattle.cases.specs.Block.{zero5}
use Rattle.cases.proofs.faults.zero5.Goals as goal

pub returns : goal.returns
unfolding zero5
returns c =
    rw (c.no_loc.ensures, c.saturating_sub-3.ensures, c.within-3.ensures, c.no_proc-2.ensures, c.within-2.ensures, c.no_proc.ensures, c.saturating_sub-2.ensures, c.within.ensures, c.has-set.ensures, c.saturating_sub.ensures, c.number-mask.ensures.is, c.saturating_sub-p.ensures)
