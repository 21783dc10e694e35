use mathlib.Core.Path.{◌≡◌}
use Prim.Native.Nat.{◌≤◌}
use Rattle.cases.specs.declared.Case.{Case}
use Rattle.rules.specs.State.{State}
use Rattle.machine.specs.Shown.{orders_of, Acts}
use Rattle.committing.specs.Committed.{Entries}
use Rattle.racing.proofs.Testing.{Unopened}
use Rattle.racing.proofs.opener.Given as goal

abbrev pub invariant-loop-j : goal.invariant-loop-j
invariant-loop-j l = (l.j ≤ l.m.issued) × ((c : Case) (s : State) → Acts c l.m.issued l.m.acts s → s.orders ≡ orders_of c s.actions l.m.rows → Entries c l.m.issued l.m.acts → Unopened s l.j)
