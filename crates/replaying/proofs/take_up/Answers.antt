use Rattle.replaying.proofs.Answers.{refused_up, walking, taken_up}
use Rattle.replaying.proofs.take_up.Goals as goal

pub returns-then-code-ne0-clause-refused : goal.returns-then-code-ne0-clause-refused
returns-then-code-ne0-clause-refused c =
    let a = c.args in
    refused_up a.block.now a.schedule.now a.size a.wanted c.refusal-code.result c.read_case-read.result c.read_case-read.ensures c.refusal-code.ensures c.if-code-ne0.true

pub walk-requires : goal.walk-requires
walk-requires c =
    let a = c.args in
    walking a.block.now a.schedule.now a.size a.wanted c.refusal-code.result c.read_case-read.result c.read_case-read.ensures c.refusal-code.ensures c.if-code-ne0.false

pub returns-clause-taken : goal.returns-clause-taken
returns-clause-taken c =
    let a = c.args in
    taken_up a.block.now a.schedule.now a.size a.wanted c.refusal-code.result c.read_case-read.result c.read_case-read.ensures c.refusal-code.ensures c.if-code-ne0.false c.walk.result c.walk.ensures
