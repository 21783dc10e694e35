use mathlib.Core.Path.{◌≡◌}
use Prim.Native.Nat.{◌≤◌}
use Rattle.cases.specs.declared.Case.{Case}
use Rattle.rules.specs.State.{State, waiting}
use Rattle.rules.specs.Result.{how_many}
use Rattle.machine.specs.Shown.{Acts}
use Rattle.replaying.proofs.queue_length.Given as goal

abbrev pub invariant-loop-k : goal.invariant-loop-k
invariant-loop-k l = (l.k ≤ l.m.issued) × (l.n ≤ l.k) × ((c : Case) (s : State) → Acts c l.m.issued l.m.acts s → l.n ≡ how_many l.k (λ j. waiting l.p (s.actions j)))
