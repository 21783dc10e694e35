use Rattle.orders.proofs.Bits.{has_less}
use Rattle.orders.proofs.minus.Goals as goal

pub returns : goal.returns
returns c = λ a. has_less c.args.x c.args.y a
