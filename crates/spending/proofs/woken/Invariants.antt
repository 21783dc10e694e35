use Prim.Native.Nat.{◌≤◌}
use Rattle.cases.specs.declared.Case.{Case}
use Rattle.rules.specs.State.{State}
use Rattle.sure.specs.Spent.{rivals as are_rivals}
use Rattle.orders.specs.Rows.{SetOf}
use Rattle.machine.specs.Shown.{Presets, Acts, shown_entry}
use Rattle.spending.proofs.woken.Given as goal

abbrev pub invariant-loop-k : goal.invariant-loop-k
invariant-loop-k l = (l.k ≤ l.m.issued) × ((c : Case) (s : State) → Presets c l.case.masks l.case.presets → Acts c l.m.issued l.m.acts s → SetOf l.k (λ i. are_rivals s (shown_entry c l.e) (s.actions i)) l.items)
