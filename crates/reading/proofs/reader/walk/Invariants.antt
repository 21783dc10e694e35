use Prim.Native.Nat.{◌-◌}
use lib.ListN.{length}
use Rattle.reading.proofs.Walking.{Going}
use Rattle.reading.proofs.reader.walk.Given as goal

abbrev pub invariant-loop-at : goal.invariant-loop-at
invariant-loop-at l = Going l.text l.at l.line l.sheet

abbrev pub decreases-loop-at : goal.decreases-loop-at
decreases-loop-at l = length l.text - l.at
