use Rattle.spending.proofs.Spends.{note_one}
use Rattle.spending.proofs.note.Goals as goal

pub returns : goal.returns
returns c = rw c.one.ensures (note_one c.args.spent.now c.args.j c.requires.long c.requires.low)
