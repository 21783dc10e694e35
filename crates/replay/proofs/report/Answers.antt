-- The line of the replay's answer fits. Assumes nothing.
use mathlib.Core.Path.{◌≡◌}
use native.Mathlib.Omega.{arith}
use Rattle.cases.specs.Block.{read_of}
use Rattle.replaying.specs.Answer.{replayed}
use Rattle.lines.specs.Answers.{replay_line}
use Rattle.lines.proofs.Behind.{laid_printed, printed_as}
use Rattle.replay.proofs.report.Goals as goal

pub returns : goal.returns
returns c =
    let line = c.replay.ensures in
    let answer = c.replay-r in
    let a = replayed c.args.block.now c.args.schedule.now 104 in
    let at = (read_of c.args.block.now).position in
    let said : replay_line answer.result.code answer.result.steps answer.result.position ≡ replay_line a.code a.steps at = rw (answer.ensures.code, answer.ensures.steps, answer.ensures.position) in
    printed_as said (laid_printed line.laid (omega (arith, line.short, c.requires)))
