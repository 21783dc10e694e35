use Prim.Native.Nat.{◌≤◌}
use Rattle.leaving.proofs.some_futile.Given as goal

abbrev pub invariant-loop-k : goal.invariant-loop-k
invariant-loop-k l = l.k ≤ l.m.issued
