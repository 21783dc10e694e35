use native.Mathlib.Omega.{arith}
use Rattle.lines.specs.Answers.{replay_line}
use Rattle.lines.proofs.Behind.{laid_then}
use Rattle.lines.proofs.Pieces.{replay_short}
use Rattle.lines.proofs.answers.replay.Goals as goal

pub returns : goal.returns
unfolding replay_line
returns c = record {
  laid = laid_then
      c.word-behind_word.ensures
      (laid_then
      c.decimal-behind_code.ensures
      (laid_then c.word-behind_after.ensures (laid_then c.decimal-behind_number.ensures (laid_then c.word-behind_steps.ensures c.ending.ensures.laid))));
  short = replay_short c.args.code c.args.steps c.args.position (omega (arith, c.ranges.code)) (omega (arith, c.ranges.steps)) c.ending.ensures.short;
}
