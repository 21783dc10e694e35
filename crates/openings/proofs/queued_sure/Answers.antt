use Rattle.openings.proofs.Queued.{sure-queued}
use Rattle.openings.proofs.queued_sure.Goals as goal

pub returns : goal.returns
returns c =
    λ t s K. sure-queued t s c.args.sets.now K c.queued_items.result (c.queued_items.ensures t s K) c.minus.result c.minus.ensures
