use Rattle.handoffs.proofs.Parts.{fresh-true, fresh-false}
use Rattle.handoffs.proofs.fresh.Goals as goal

pub returns-then-d-lt4 : goal.returns-then-d-lt4
returns-then-d-lt4 c = fresh-true c.args.k c.args.d c.if-d-lt4.true

pub returns-else-d-lt4 : goal.returns-else-d-lt4
returns-else-d-lt4 c = fresh-false c.args.k c.args.d c.if-d-lt4.false
