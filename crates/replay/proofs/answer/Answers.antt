-- The first 512 bytes of the input, and the rest. Assumes nothing.
use native.Mathlib.Omega.{arith}
use lib.ListN.{drop_of_length-le}
use lib.Seq.{take_all}
use Rattle.records.proofs.Putting.{tail_lent}
use Rattle.replay.proofs.answer.Goals as goal

pub returns-then-input-lt512 : goal.returns-then-input-lt512
returns-then-input-lt512 c =
    let input = c.args.input.now in
    rw (take_all 512 input (omega (arith, c.if-input-lt512.true)), drop_of_length-le input {i = 512} (omega (arith, c.if-input-lt512.true))) c.report.ensures

pub returns-else-input-lt512 : goal.returns-else-input-lt512
returns-else-input-lt512 c = rw (tail_lent 512 c.args.input.now) at c.report-else-input-lt512.ensures
