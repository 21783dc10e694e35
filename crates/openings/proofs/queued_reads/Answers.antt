use Rattle.openings.proofs.Queued.{reads-queued}
use Rattle.openings.proofs.queued_reads.Goals as goal

pub returns : goal.returns
returns c =
    λ t s K. reads-queued t s c.args.sets.now K c.queued_items.result (c.queued_items.ensures t s K)
