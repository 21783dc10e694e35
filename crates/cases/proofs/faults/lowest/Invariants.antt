use mathlib.Core.Path.{◌≡◌}
use mathlib.Core.Bool.{false}
use Prim.Native.Nat.{ℕ, ◌≤◌, ◌<◌, ◌-◌}
use Rattle.cases.specs.Block.{bad}
use Rattle.cases.proofs.faults.lowest.Given as goal

-- No position passed so far is bad, and none outside those that the code speaks of; the measure is the number of positions that are left.
abbrev pub invariant-loop-i : goal.invariant-loop-i
invariant-loop-i l = (l.i ≤ 510) × ((k : ℕ) → k < l.i → bad l.block l.code k ≡ false)

abbrev pub decreases-loop-i : goal.decreases-loop-i
decreases-loop-i l = l.end - l.i
