use Prim.Native.Nat.{◌+◌}
use Rattle.cases.specs.declared.Case.{Case}
use Rattle.rules.specs.State.{State, Action, stands_at}
use Rattle.orders.specs.Rows.{SetOf}
use Rattle.machine.specs.Shown.{Acts}
use Rattle.issuing.specs.Issued.{after}
use Rattle.issuing.proofs.earlier.Given as goal

abbrev pub invariant-loop-k : goal.invariant-loop-k
invariant-loop-k l = (c : Case) (s : State) (new : Action) → Acts c l.issued l.acts s → SetOf 8 (λ l. stands_at l new) l.writes → SetOf (8 + l.k) (after l.p new s) l.items
