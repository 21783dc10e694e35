use Rattle.orders.proofs.Joins.{up_to_in}
use Rattle.orders.proofs.up_to.Goals as goal

pub returns-then-e-lt56 : goal.returns-then-e-lt56
returns-then-e-lt56 c = let a = c.args in up_to_in a.rows.now a.e c.one.result c.if-e-lt56.true c.one.ensures
