use mathlib.Core.Path.{◌≡◌}
use mathlib.Core.Bool.{◌||◌}
use Prim.Native.Nat.{ℕ, ◌+◌, ◌<◌}
use Rattle.words.specs.Sets.{has}
use Rattle.cases.specs.declared.Case.{Case}
use Rattle.rules.specs.State.{State, kind_of}
use Rattle.machine.specs.Kept.{Kept}
use Rattle.sights.proofs.of_kinds.Given as goal

abbrev pub invariant-loop-rest : goal.invariant-loop-rest
invariant-loop-rest l = (l.rest < 256) × ((c : Case) (s : State) → Kept c s l.sets → (j : ℕ) → j < s.count → (has l.items (8 + j) || has l.rest (kind_of (s.actions j))) ≡ has l.kinds (kind_of (s.actions j)))

abbrev pub decreases-loop-rest : goal.decreases-loop-rest
decreases-loop-rest l = l.rest
