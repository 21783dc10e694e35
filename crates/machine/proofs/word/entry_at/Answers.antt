use Rattle.machine.specs.Word.{entry_of}
use Rattle.machine.proofs.word.entry_at.Goals as goal

pub returns : goal.returns
unfolding entry_of
returns c = rw c.instr_from-instr.ensures
