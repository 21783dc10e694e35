use mathlib.Core.Path.{◌≡◌}
use mathlib.Core.Bool.{false}
use Prim.Native.Nat.{◌≤◌}
use Rattle.words.specs.Small.{some_below}
use Rattle.cases.specs.declared.Case.{Case}
use Rattle.rules.specs.State.{State}
use Rattle.machine.specs.Shown.{Acts}
use Rattle.racing.proofs.Answers.{waits}
use Rattle.racing.proofs.queued.Given as goal

abbrev pub invariant-loop-k : goal.invariant-loop-k
invariant-loop-k l = (l.k ≤ l.m.issued) × ((c : Case) (s : State) → Acts c l.m.issued l.m.acts s → false ≡ some_below l.k (λ j. waits (s.actions j)))
