use Rattle.handoffs.proofs.Parts.{considered, passed_by, touched_word, asked_askable}
use Rattle.handoffs.proofs.Question.consider.Goals as goal

pub improve-requires : goal.improve-requires
improve-requires c =
    let a = c.args in
    record {
      fit = c.requires.fit;
      bound = c.requires.bound;
      askable = asked_askable a.self.now.ready a.k c.asked_for.ensures c.requires.ready_low (c.requires.low (touched_word a.self.now.sending a.d c.touched_by.ensures c.if-touched_by.true));
      level = c.requires.level;
      long = c.requires.long;
    }

pub returns-then-touched_by : goal.returns-then-touched_by
returns-then-touched_by c =
    let a = c.args in
    considered a.self.now.sending a.self.now.ready a.d a.k c.asked_for.result c.touched_by.ensures c.if-touched_by.true c.asked_for.ensures c.improve.ensures

pub returns-else-touched_by : goal.returns-else-touched_by
returns-else-touched_by c =
    let a = c.args in
    passed_by a.self.now.sending a.self.now.ready a.d a.k c.touched_by.ensures c.if-touched_by.false
