use Rattle.cases.proofs.Decoding.{read_refused, read_accepted}
use Rattle.cases.proofs.read_case.Goals as goal

pub returns-then-code-ne0 : goal.returns-then-code-ne0
returns-then-code-ne0 c =
    read_refused c.args.block.now c.refusal-code.result c.refusal-code.ensures c.nothing.result c.if-code-ne0.true c.nothing.ensures

pub returns : goal.returns
returns c =
    read_accepted c.args.block.now c.refusal-code.result c.refusal-code.ensures c.case_of.result c.usual.result c.if-code-ne0.false c.usual.ensures c.case_of.ensures
