use lib.ListN.{length}
use Rattle.replaying.specs.Answer.{result}
use Rattle.replaying.proofs.Answers.{refused_answer, taken_size, taken_answer}
use Rattle.replaying.proofs.replay.Goals as goal

pub show-requires : goal.show-requires
show-requires c =
    let a = c.args in
    record { valid = c.in-Ok.ensures.taken.walk.valid; long = taken_size result a.block.now a.schedule.now (length a.res.now) c.in-Ok.t c.in-Ok.ensures.taken }

pub returns-in-Ok : goal.returns-in-Ok
returns-in-Ok c =
    let a = c.args in
    taken_answer result a.block.now a.schedule.now (length a.res.now) c.in-Ok.t c.from.result c.show.new.res c.in-Ok.ensures.taken c.from.ensures c.show.ensures

pub returns-in-Err : goal.returns-in-Err
returns-in-Err c =
    let a = c.args in
    refused_answer result a.block.now a.schedule.now (length a.res.now) c.in-Err.refused c.clear.new.out c.in-Err.ensures.refused c.clear.ensures
