use Rattle.lines.proofs.Behind.{laid_then}
use Rattle.shelves.specs.Report.{count_line}
use Rattle.shelves.proofs.printing.count_line.Goals as goal

pub returns : goal.returns
unfolding count_line
returns c =
    laid_then
    c.word-behind_word.ensures
    (laid_then c.decimal-behind_name.ensures (laid_then c.word-behind_gap.ensures (laid_then c.decimal-behind_number.ensures c.word.ensures)))
