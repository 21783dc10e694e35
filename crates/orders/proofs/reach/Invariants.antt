use mathlib.Core.Bool.{◌&&◌}
use mathlib.Core.List.{List}
use Prim.Native.Nat.{ℕ}
use lib.Dec.{ltb}
use Rattle.rules.specs.Order.{Order, up_to}
use Rattle.orders.specs.Rows.{order_of}
use Rattle.orders.proofs.Walks.{Covers}
use Rattle.orders.proofs.reach.Given as goal

abbrev near : List ℕ → Order
near rows a w = ltb w 56 && up_to (order_of rows) a w

abbrev pub invariant-loop-rest : goal.invariant-loop-rest
invariant-loop-rest l = Covers (near l.rows) l.items l.rest l.mask

abbrev pub decreases-loop-rest : goal.decreases-loop-rest
decreases-loop-rest l = l.rest
