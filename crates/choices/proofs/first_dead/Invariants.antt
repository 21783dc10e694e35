use Prim.Native.Nat.{◌≤◌, ◌-◌}
use Rattle.choices.proofs.first_dead.Given as goal

abbrev pub invariant-loop-k : goal.invariant-loop-k
invariant-loop-k l = l.k ≤ l.m.issued

abbrev pub decreases-loop-k : goal.decreases-loop-k
decreases-loop-k l = l.m.issued - l.k
