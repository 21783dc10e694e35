use mathlib.Core.Path.{◌≡◌}
use mathlib.Core.Bool.{◌||◌}
use lib.Bits.{bit_and}
use Rattle.cases.specs.declared.Case.{Case}
use Rattle.rules.specs.State.{State}
use Rattle.orders.proofs.Walks.{in_some}
use Rattle.machine.specs.Shown.{Acts}
use Rattle.needless.proofs.Echoing.{takes}
use Rattle.needless.proofs.some_gives.Given as goal

abbrev pub invariant-loop-rest : goal.invariant-loop-rest
invariant-loop-rest l = (c : Case) (s : State) → c.memory ≡ l.case.memory → Acts c l.m.issued l.m.acts s → (l.found || in_some l.rest (takes c s l.v)) ≡ in_some (bit_and l.word l.done) (takes c s l.v)

abbrev pub decreases-loop-rest : goal.decreases-loop-rest
decreases-loop-rest l = l.rest
