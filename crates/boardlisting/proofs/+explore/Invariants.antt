use Prim.Native.Nat.{◌-◌}
use Rattle.running.specs.Shown.{shown}
use Rattle.boardlisting.proofs.Loop.{Sweeping}
use Rattle.boardlisting.proofs.+explore.Given as goal

-- The cycle of calls {explore}. The measure is the number of moves to go. The loop's invariant is `Sweeping` of Loop. Assumes nothing.
abbrev pub invariant-loop-at : goal.invariant-loop-at
invariant-loop-at l = Sweeping l.k l.case (shown l.k l.case l.s) (l.n - 1) l.initial.out l.initial.sum l.from l.at l.done l.out l.sum

-- The number of moves that there is room for falls.
abbrev pub decreases-explore : goal.decreases-explore
decreases-explore l = l.deep
