use Rattle.lines.proofs.Behind.{laid_then}
use Rattle.shelves.specs.Report.{other_lines}
use Rattle.shelves.proofs.printing.other_lines.Goals as goal

pub returns : goal.returns
unfolding other_lines
returns c =
    laid_then c.number_line-behind_over.ensures c.count_lines.ensures
