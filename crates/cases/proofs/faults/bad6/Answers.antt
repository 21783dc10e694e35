use Rattle.cases.specs.Block.{bad6}
use Rattle.cases.proofs.faults.bad6.Goals as goal

pub returns : goal.returns
unfolding bad6
returns c =
    rw (c.bad_byte.ensures, c.number.ensures.is, c.used.ensures, c.saturating_sub-3.ensures, c.within.ensures, c.number-op.ensures.is, c.saturating_sub-2.ensures, c.saturating_sub.ensures, c.saturating_sub-p.ensures)
