use Rattle.machine.proofs.Starting.{begun_shows, begun_valid}
use Rattle.machine.proofs.start.Goals as goal

pub returns : goal.returns
returns c = (begun_shows c.args.case.now, begun_valid c.args.case.now c.requires)
