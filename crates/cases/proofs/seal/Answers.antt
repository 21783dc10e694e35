use Rattle.cases.proofs.Written.{no_room, refused, accepted}
use Rattle.cases.proofs.seal.Goals as goal

pub returns-then-block-ne512 : goal.returns-then-block-ne512
returns-then-block-ne512 c =
    no_room c.args.block.now c.clear.new.block c.if-block-ne512.true c.clear.ensures

pub returns-then-fault-ne0 : goal.returns-then-fault-ne0
returns-then-fault-ne0 c =
    refused c.args.block.now c.clear-then-fault-ne0.new.block c.if-block-ne512.false c.judge-fault.result c.judge-fault.ensures c.if-fault-ne0.true c.clear-then-fault-ne0.ensures

pub returns : goal.returns
returns c =
    accepted c.args.block.now c.sign.new.block c.if-block-ne512.false c.judge-fault.result c.judge-fault.ensures c.if-fault-ne0.false c.sign.ensures
