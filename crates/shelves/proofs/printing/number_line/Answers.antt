use Rattle.lines.proofs.Behind.{laid_then}
use Rattle.shelves.specs.Report.{number_line}
use Rattle.shelves.proofs.printing.number_line.Goals as goal

pub returns : goal.returns
unfolding number_line
returns c =
    laid_then c.word-behind_word.ensures (laid_then c.decimal-behind_number.ensures c.word.ensures)
