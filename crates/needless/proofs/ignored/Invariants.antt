use Rattle.sure.specs.Dead.{Ignored}
use Rattle.rules.specs.State.{State}
use Rattle.words.specs.Sets.{has}
use Rattle.machine.specs.Shown.{Acts, names_of}
use Rattle.cases.specs.declared.Case.{Case}
use Prim.Native.Nat.{◌≤◌}
use mathlib.Core.Path.{◌≡◌}
use Rattle.needless.proofs.ignored.Given as goal

abbrev pub invariant-loop-k : goal.invariant-loop-k
invariant-loop-k l = (l.k ≤ l.m.issued) × ((c : Case) (s : State) → Acts c l.m.issued l.m.acts s → s.names ≡ names_of c l.m.names → Ignored s (has l.inner))
