use Rattle.orders.specs.Rows.{order_of}
use Rattle.orders.proofs.Walks.{Covers}
use Rattle.sights.proofs.covered.Given as goal

abbrev pub invariant-loop-rest : goal.invariant-loop-rest
invariant-loop-rest l = Covers (order_of l.rows) l.items l.rest l.mask

abbrev pub decreases-loop-rest : goal.decreases-loop-rest
decreases-loop-rest l = l.rest
