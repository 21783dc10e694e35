use Prim.Native.Nat.{◌≤◌}
use Rattle.choices.proofs.issuer.Given as goal

abbrev pub invariant-loop-p : goal.invariant-loop-p
invariant-loop-p l = l.p ≤ 4
