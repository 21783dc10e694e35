use Rattle.orders.proofs.Trailing.{has_others, others_less}
use Rattle.orders.proofs.others.Goals as goal

pub returns : goal.returns
returns c = (others_less c.args.x c.requires, λ e m a. has_others c.args.x e m c.requires a)
