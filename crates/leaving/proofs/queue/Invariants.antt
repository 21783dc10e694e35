use mathlib.Core.Path.{◌≡◌}
use Prim.Native.Nat.{◌≤◌}
use Rattle.words.specs.Small.{is_none}
use Rattle.cases.specs.declared.Case.{Case}
use Rattle.rules.specs.State.{State}
use Rattle.rules.specs.Result.{how_many}
use Rattle.machine.specs.Kept.{Kept}
use Rattle.leaving.proofs.queue.Given as goal

abbrev pub invariant-loop-k : goal.invariant-loop-k
invariant-loop-k l = (l.k ≤ l.m.issued) × (l.n ≤ l.k) × ((c : Case) (s : State) → Kept c s l.m.sets → s.count ≡ l.m.issued → l.n ≡ how_many l.k (λ j. is_none (s.actions j).result))
