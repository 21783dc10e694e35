use mathlib.Core.Bool.{Bool, not}
use mathlib.Core.List.{List}
use Prim.Native.Nat.{ℕ}
use Rattle.orders.specs.Rows.{order_of}
use Rattle.orders.proofs.Walks.{Sifted}
use Rattle.sights.proofs.not_after.Given as goal

abbrev early : List ℕ → ℕ → ℕ → Bool
early rows i a = not (order_of rows i a)

abbrev pub invariant-loop-rest : goal.invariant-loop-rest
invariant-loop-rest l = Sifted l.items (early l.rows l.i) l.rest l.seen

abbrev pub decreases-loop-rest : goal.decreases-loop-rest
decreases-loop-rest l = l.rest
