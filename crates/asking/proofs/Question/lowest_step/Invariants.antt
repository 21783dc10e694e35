use Prim.Native.Nat.{◌-◌}
use Rattle.clauses.specs.Wanted.{wanted}
use Rattle.machine.specs.Shown.{shown}
use Rattle.asking.proofs.Descent.{Passed}
use Rattle.asking.proofs.Question.lowest_step.Given as goal

-- Row after row; the last cannot be passed. Assumes nothing.
abbrev pub invariant-loop-i : goal.invariant-loop-i
invariant-loop-i l = Passed l.self.case (wanted l.self.asked) (shown l.self.case l.m) (l.n - 1) l.i

abbrev pub decreases-loop-i : goal.decreases-loop-i
decreases-loop-i l = 193 - l.i
