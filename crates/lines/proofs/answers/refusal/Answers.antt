use native.Mathlib.Omega.{arith}
use Rattle.lines.specs.Answers.{refusal_line}
use Rattle.lines.proofs.Behind.{laid_then}
use Rattle.lines.proofs.Pieces.{refusal_short}
use Rattle.lines.proofs.answers.refusal.Goals as goal

pub returns : goal.returns
unfolding refusal_line
returns c = record {
  laid = laid_then c.word-behind_word.ensures (laid_then c.decimal-behind_code.ensures c.ending.ensures.laid);
  short = refusal_short c.args.code c.args.position (omega (arith, c.ranges.code)) c.ending.ensures.short;
}
