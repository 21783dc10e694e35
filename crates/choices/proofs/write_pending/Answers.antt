use Rattle.choices.proofs.Pending.{pending-some}
use Rattle.choices.proofs.write_pending.Goals as goal

pub returns : goal.returns
returns c =
    λ t s K. pending-some t s c.args.sets.now K c.args.l c.requires c.minus.result c.minus.ensures
