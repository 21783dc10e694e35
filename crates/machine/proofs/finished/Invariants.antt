use mathlib.Core.Path.{◌≡◌}
use Rattle.words.specs.Small.{all as every, counting}
use Rattle.cases.specs.declared.Case.{Case}
use Rattle.rules.specs.State.{State}
use Rattle.machine.specs.Kept.{Kept}
use Rattle.machine.specs.Lent.{Ending}
use Rattle.machine.proofs.Answers.{ended}
use Rattle.machine.proofs.finished.Given as goal

abbrev pub invariant-loop-p : goal.invariant-loop-p
invariant-loop-p l = (c : Case) (s : State) → Ending c s l.case.counts l.m.places l.case.procs → Kept c s l.m.sets → l.all ≡ every (ended c s) (counting 0 l.p)
