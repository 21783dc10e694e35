use Prim.Native.Nat.{◌*◌, ◌-◌}
use Rattle.clauses.specs.Wanted.{wanted}
use Rattle.asking.proofs.Descent.{Descending}
use Rattle.asking.proofs.Question.lowest.Given as goal

-- The descent, step by step. Assumes nothing.
abbrev pub invariant-loop-k : goal.invariant-loop-k
invariant-loop-k l = Descending l.self.case (wanted l.self.asked) l.n l.m (l.n - l.k) (4 * l.k) l.out
