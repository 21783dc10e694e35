use mathlib.Core.Path.{◌≡◌}
use mathlib.Core.Bool.{false}
use Prim.Native.Nat.{ℕ, ◌≤◌, ◌<◌}
use Rattle.cases.specs.declared.Case.{Case}
use Rattle.rules.specs.State.{State, waiting}
use Rattle.machine.specs.Shown.{Acts}
use Rattle.waiting.proofs.oldest.Given as goal

abbrev pub invariant-loop-k : goal.invariant-loop-k
invariant-loop-k l = (l.k ≤ l.m.issued) × ((c : Case) (s : State) → Acts c l.m.issued l.m.acts s → (j : ℕ) → j < l.k → waiting l.p (s.actions j) ≡ false)
