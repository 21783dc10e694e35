use Rattle.spending.specs.Words.{opens}
use Rattle.cases.specs.declared.Case.{Case}
use Rattle.machine.specs.Shown.{place_of, names_of, Acts}
use Rattle.machine.specs.Lent.{Lent}
use Rattle.orders.specs.Rows.{SetOf}
use Rattle.rules.specs.State.{State}
use lib.ListN.{get_or}
use Prim.Native.Nat.{◌≤◌}
use mathlib.Core.Path.{◌≡◌}
use Rattle.openings.proofs.issues.Given as goal

abbrev pub invariant-loop-p : goal.invariant-loop-p
invariant-loop-p l = (l.p ≤ 4) × ((c : Case) (s : State) → Lent c l.program l.case.counts l.case.masks l.case.presets l.case.procs l.case.locs → Acts c l.m.issued l.m.acts s → s.places ≡ (λ q. place_of (get_or l.m.places q 0)) → s.names ≡ names_of c l.m.names → SetOf l.p (opens c s 49) l.items)
