use mathlib.Core.Path.{◌≡◌}
use Prim.Native.Nat.{◌*◌, ◌-◌, ◌≤◌}
use Rattle.cases.specs.Block.{weighted}
use Rattle.cases.proofs.bytes.check.Given as goal

-- The sum is that of the bytes passed; it stays small, since each byte adds at most 510 times 255.
abbrev pub invariant-loop-i : goal.invariant-loop-i
invariant-loop-i l = (l.i ≤ 510) × (l.sum ≡ weighted l.block l.i) × (l.sum ≤ 130050 * l.i)

abbrev pub decreases-loop-i : goal.decreases-loop-i
decreases-loop-i l = 510 - l.i
