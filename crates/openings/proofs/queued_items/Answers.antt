use Rattle.openings.proofs.Queued.{queued_at}
use Rattle.openings.proofs.queued_items.Goals as goal

pub returns : goal.returns
returns c = λ t s K k h. queued_at t s c.args.sets.now K k h
