use mathlib.Core.Path.{◌≡◌}
use Prim.Native.Nat.{◌*◌, ◌≤◌}
use Rattle.judging.specs.Places.{instrs_before}
use Rattle.reading.proofs.unset.instrs_before.Given as goal

-- The first i counts are summed. Assumes nothing.
abbrev pub invariant-loop-i : goal.invariant-loop-i
invariant-loop-i l = (l.sum ≡ instrs_before l.counts l.i) × (l.sum ≤ 255 * l.i)
