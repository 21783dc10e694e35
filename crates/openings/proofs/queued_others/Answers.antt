use Rattle.openings.proofs.Queued.{others-queued}
use Rattle.openings.proofs.queued_others.Goals as goal

pub returns : goal.returns
returns c =
    λ t s K. others-queued t s c.args.sets.now K c.queued_items.result (c.queued_items.ensures t s K) c.minus.result c.minus.ensures
