use mathlib.Core.Path.{◌≡◌}
use Rattle.cases.proofs.Registers.{among}
use Rattle.cases.proofs.faults.is_set.Given as goal

abbrev pub invariant-loop-n : goal.invariant-loop-n
invariant-loop-n l = l.set ≡ among l.block l.p l.r l.n
