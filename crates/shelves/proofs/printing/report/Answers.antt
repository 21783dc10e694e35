use native.Mathlib.Omega.{arith}
use Rattle.lines.proofs.Behind.{laid_then, laid_as}
use Rattle.shelves.proofs.Reported.{text_many, text_few}
use Rattle.shelves.proofs.printing.report.Goals as goal

pub returns-then-many : goal.returns-then-many
returns-then-many c =
    laid_as (text_many c.args.r c.if-many.true) c.number_line.ensures

pub returns-else-many : goal.returns-else-many
returns-else-many c =
    laid_as (text_few c.args.r (omega arith)) (laid_then c.block_lines-behind_blocks.ensures c.other_lines.ensures)
