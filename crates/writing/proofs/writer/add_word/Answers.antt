use Rattle.writing.proofs.Writes.{word_none, word_some}
use Rattle.writing.proofs.writer.add_word.Goals as goal

-- By whether it is zero. Assumes nothing.
pub returns-then-v-eq0 : goal.returns-then-v-eq0
returns-then-v-eq0 c = word_none c.args.page.now c.args.at c.args.l c.args.v c.if-v-eq0.true

pub returns-else-v-eq0 : goal.returns-else-v-eq0
returns-else-v-eq0 c = word_some c.args.l c.args.v c.if-v-eq0.false c.add.ensures
