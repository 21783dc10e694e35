use mathlib.Core.Path.{sym, ap}
use Prim.Native.Nat.{ℕ}
use lib.ListN.{get_or}
use Rattle.words.specs.Small.{counting}
use Rattle.words.proofs.Lists.{concat_map-append}
use Rattle.lines.specs.Quoted.{quoted}
use Rattle.lines.proofs.Behind.{laid_then, laid_as}
use Rattle.shelves.specs.Report.{number_line, count_line, block_lines}
use Rattle.shelves.proofs.printing.block_lines.Goals as goal

pub returns : goal.returns
unfolding block_lines
returns c =
    let by_code : ℕ → ℕ = λ k. get_or c.args.codes.now k 0 in
    laid_then
    c.number_line-behind_blocks.ensures
    (laid_then
    (laid_as (ap (number_line (quoted "accepted ")) c.number.ensures) c.number_line-behind_accepted.ensures)
    (laid_as
    (sym (concat_map-append (λ k. count_line (quoted "refused ") k (by_code k)) (counting 2 6) (counting 19 1)))
    (laid_then c.count_lines-behind_seven.ensures c.count_lines.ensures)))
