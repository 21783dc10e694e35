use Prim.Native.Nat.{◌≤◌, ◌-◌}
use Rattle.records.proofs.Places.{Between}
use Rattle.records.proofs.find.Given as goal

-- The records before `low` are below r, and those from `high` on are not.
abbrev pub invariant-loop-low : goal.invariant-loop-low
invariant-loop-low l = (l.low ≤ l.high) × (l.high ≤ l.n) × Between l.out l.n l.r l.low l.high

abbrev pub decreases-loop-low : goal.decreases-loop-low
decreases-loop-low l = l.high - l.low
