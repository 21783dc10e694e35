use Rattle.machine.specs.Lent.{Ending}
use Rattle.cases.specs.declared.Case.{Case}
use Rattle.rules.specs.State.{State}
use Rattle.cases.specs.Case.{count_of}
use Rattle.words.specs.Small.{all as every, is, counting}
use mathlib.Core.Path.{◌≡◌}
use Rattle.choices.proofs.ended.Given as goal

abbrev pub invariant-loop-p : goal.invariant-loop-p
invariant-loop-p l = ((c : Case) (s : State) → Ending c s l.case.counts l.places l.case.procs → l.all ≡ every (λ q. is (count_of c q) (s.places q)) (counting 0 l.p))
