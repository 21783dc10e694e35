-- A state with one order, seen with an order for each location: the one order between items that stand there. Assumes nothing.
use mathlib.Core.Path.{◌≡◌}
use mathlib.Core.Bool.{◌&&◌}
use Prim.Native.Nat.{ℕ}
use lib.Dec.{ltb}
use Rattle.cases.specs.declared.Case.{Case}
use Rattle.rules.specs.State.{State}
use Rattle.rules.specs.Order.{Order}
use Rattle.oneorder.specs.OneOrder.{limited, view, with_order}

pub view_path : (c : Case) (s : State) (R : Order) → ((l a b : ℕ) → (ltb l c.locs && limited s.actions l R a b) ≡ s.orders l a b) → view c (with_order s R) ≡ s
view_path c s R h = λ i. record { count = s.count; actions = s.actions; places = s.places; names = s.names; holders = s.holders; orders = λ l a b. h l a b i }
