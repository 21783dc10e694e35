use Rattle.sure.specs.Dead.{awaits as is_awaiting}
use Rattle.rules.specs.State.{State}
use Rattle.words.specs.Small.{some_below}
use Rattle.words.specs.Sets.{has}
use Rattle.machine.specs.Shown.{Acts}
use Rattle.cases.specs.declared.Case.{Case}
use mathlib.Core.Bool.{false, ◌&&◌, not}
use Prim.Native.Nat.{◌≤◌}
use mathlib.Core.Path.{◌≡◌}
use Rattle.needless.proofs.awaited.Given as goal

abbrev pub invariant-loop-j : goal.invariant-loop-j
invariant-loop-j l = (l.j ≤ l.m.issued) × ((c : Case) (s : State) → Acts c l.m.issued l.m.acts s → some_below l.j (λ i. is_awaiting l.k (s.actions i) && not (has l.inner i)) ≡ false)
