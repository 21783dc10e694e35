use native.Mathlib.Omega.{arith}
use Rattle.lines.specs.Answers.{header_line}
use Rattle.lines.proofs.Behind.{laid_then}
use Rattle.lines.proofs.Pieces.{header_short}
use Rattle.lines.proofs.answers.header.Goals as goal

pub returns-then-cut : goal.returns-then-cut
unfolding header_line
returns-then-cut c =
    let args = c.args in
    record {
      laid = rw c.if-cut.true (laid_then c.word-behind_word.ensures (laid_then c.decimal-behind_count.ensures c.word.ensures));
      short = header_short args.count args.cut (omega arith);
    }

pub returns-else-cut : goal.returns-else-cut
unfolding header_line
returns-else-cut c =
    let args = c.args in
    record {
      laid = rw c.if-cut.false (laid_then c.word-behind_word.ensures (laid_then c.decimal-behind_count.ensures c.word-else-cut.ensures));
      short = header_short args.count args.cut (omega arith);
    }
