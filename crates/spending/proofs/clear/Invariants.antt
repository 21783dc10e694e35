use mathlib.Core.List.{List}
use lib.ListN.{length}
use mathlib.Core.Path.{◌≡◌}
use Prim.Native.Nat.{ℕ, ◌≤◌}
use Rattle.spending.specs.Spending.{Cleared}
use Rattle.spending.proofs.clear.Given as goal

abbrev pub invariant-loop-k : goal.invariant-loop-k
invariant-loop-k l = (l.k ≤ 48) × (length l.spent ≡ 50) × ((now : List ℕ) → Cleared now l.gone 0 l.initial.spent → Cleared now l.gone l.k l.spent)
