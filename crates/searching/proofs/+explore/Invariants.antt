use mathlib.Core.Path.{◌≡◌}
use Prim.Native.Nat.{◌<◌, ◌-◌}
use Rattle.clauses.specs.Wanted.{wanted}
use Rattle.machine.specs.Shown.{shown}
use Rattle.spending.specs.Words.{spent_by}
use Rattle.searching.proofs.Loop.{Sweeping}
use Rattle.searching.proofs.+explore.Given as goal

-- The cycle of calls {explore}. The measure is the number of steps to go. The loop's invariant is `Turns` of Returns: what is told so far, what is
-- spent by now, the open positions passed are spent, and a sure step is the first to be looked at. Assumes nothing.
abbrev pub invariant-loop-at : goal.invariant-loop-at
invariant-loop-at l =
    Sweeping l.case (wanted l.asked) (spent_by l.initial.now) (shown l.case l.m) (l.n - 1) l.initial.out l.initial.sum l.initial.at l.sweep.to l.at l.now l.out l.sum × (l.j < 3200 → l.at ≡ l.initial.at)

abbrev pub decreases-loop-at : goal.decreases-loop-at
decreases-loop-at l = l.sweep.to - l.at

-- The number of steps to go falls.
abbrev pub decreases-explore : goal.decreases-explore
decreases-explore l = l.n
