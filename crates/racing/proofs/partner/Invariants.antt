use mathlib.Core.Path.{◌≡◌}
use Prim.Native.Nat.{◌≤◌, ◌<◌}
use Rattle.cases.specs.declared.Case.{Case}
use Rattle.rules.specs.State.{State}
use Rattle.machine.specs.Shown.{orders_of, Acts}
use Rattle.committing.specs.Committed.{Entries}
use Rattle.racing.proofs.Testing.{Unmet}
use Rattle.racing.proofs.partner.Given as goal

abbrev pub invariant-loop-k : goal.invariant-loop-k
invariant-loop-k l = (l.k ≤ l.m.issued) × (l.j < l.k) × ((c : Case) (s : State) → Acts c l.m.issued l.m.acts s → s.orders ≡ orders_of c s.actions l.m.rows → Entries c l.m.issued l.m.acts → Unmet s l.j l.k)
