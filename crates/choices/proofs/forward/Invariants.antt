use mathlib.Core.Bool.{false}
use mathlib.Core.Path.{◌≡◌}
use Rattle.words.specs.Small.{some_below}
use Rattle.cases.specs.Case.{count_of, instr_at}
use Rattle.sure.specs.Sure.{backward}
use Rattle.choices.proofs.forward.Given as goal

abbrev pub invariant-loop-p : goal.invariant-loop-p
invariant-loop-p l = some_below l.p (λ q. some_below (count_of l.case q) (λ i. backward (instr_at l.case q i) i)) ≡ false
