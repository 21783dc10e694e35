use native.Mathlib.Omega.{arith}
use Rattle.reading.proofs.Walking.{hear_not, hear_open, hear_all}
use Rattle.reading.proofs.reader.hear.Goals as goal

pub returns-in-Err : goal.returns-in-Err
returns-in-Err c = hear_not c.args.text.now c.in-Err.line c.refused.result c.in-Err.ensures c.refused.ensures

pub returns-then-open : goal.returns-then-open
returns-then-open c = hear_open c.args.text.now c.in-Ok.walked.0 c.in-Ok.walked.1 c.refused-then-open.result c.in-Ok.ensures c.if-open.true c.refused-then-open.ensures

pub returns : goal.returns
returns c = hear_all c.args.text.now c.in-Ok.walked.0 c.in-Ok.walked.1 c.accepted.result c.in-Ok.ensures (omega arith) c.accepted.ensures
