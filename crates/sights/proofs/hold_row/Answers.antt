use Rattle.sights.proofs.Holds.{row_is}
use Rattle.sights.proofs.hold_row.Goals as goal

pub returns : goal.returns
returns c = row_is c.args.kind c.requires
