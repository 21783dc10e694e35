use mathlib.Core.Path.{◌≡◌}
use lib.ListN.{length}
use Rattle.orders.specs.Rows.{JoinedTo}
use Rattle.orders.proofs.spread.Given as goal

abbrev pub invariant-loop-b : goal.invariant-loop-b
invariant-loop-b l = (length l.rows ≡ 56) × JoinedTo l.initial.rows l.rows l.i l.mask l.b
