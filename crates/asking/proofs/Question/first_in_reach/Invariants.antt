use Prim.Native.Nat.{◌+◌, ◌-◌}
use Rattle.clauses.specs.Wanted.{wanted}
use Rattle.machine.specs.Shown.{shown}
use Rattle.asking.proofs.Descent.{Skipped}
use Rattle.asking.proofs.Question.first_in_reach.Given as goal

-- The open positions, one after the other. Assumes nothing.
abbrev pub invariant-loop-at : goal.invariant-loop-at
invariant-loop-at l = Skipped l.self.case (wanted l.self.asked) (shown l.self.case l.m) (l.n - 1) l.span.start l.span.end l.at

abbrev pub decreases-loop-at : goal.decreases-loop-at
decreases-loop-at l = l.span.end + 1 - l.at
