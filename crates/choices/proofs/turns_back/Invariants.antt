use mathlib.Core.Bool.{false}
use mathlib.Core.Path.{◌≡◌}
use Rattle.words.specs.Small.{some_below}
use Rattle.cases.specs.Case.{instr_at}
use Rattle.sure.specs.Sure.{backward}
use Rattle.choices.proofs.turns_back.Given as goal

abbrev pub invariant-loop-i : goal.invariant-loop-i
invariant-loop-i l = some_below l.i (λ k. backward (instr_at l.case l.p k) k) ≡ false
