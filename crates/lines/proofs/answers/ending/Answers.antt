use mathlib.Core.Path.{sym, ◌∙◌}
use native.Mathlib.Omega.{arith}
use Rattle.words.proofs.Bools.{cond-true, cond-false}
use Rattle.lines.specs.Answers.{of_block, ending}
use Rattle.lines.proofs.Behind.{laid_then, laid_as}
use Rattle.lines.proofs.Pieces.{ending_short}
use Rattle.lines.proofs.answers.ending.Goals as goal

pub returns-then-of_block : goal.returns-then-of_block
unfolding ending
returns-then-of_block c =
    record {
      laid = laid_as
          (sym (cond-true (of_block c.args.code) _ _ (sym c.of_block.ensures ∙ c.if-of_block.true)))
          (laid_then c.word-behind_at.ensures (laid_then c.decimal-behind_position.ensures c.word.ensures));
      short = ending_short c.args.code c.args.position (omega (arith, c.ranges.position));
    }

pub returns-else-of_block : goal.returns-else-of_block
unfolding ending
returns-else-of_block c =
    record {
      laid = laid_as (sym (cond-false (of_block c.args.code) _ _ (sym c.of_block.ensures ∙ c.if-of_block.false))) c.word-else-of_block.ensures;
      short = ending_short c.args.code c.args.position (omega (arith, c.ranges.position));
    }
