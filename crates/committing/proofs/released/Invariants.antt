use Prim.Native.Nat.{◌+◌}
use Rattle.cases.specs.declared.Case.{Case}
use Rattle.rules.specs.State.{State}
use Rattle.orders.specs.Rows.{SetOf}
use Rattle.machine.specs.Shown.{Acts}
use Rattle.committing.specs.Committed.{releases}
use Rattle.committing.proofs.released.Given as goal

abbrev pub invariant-loop-k : goal.invariant-loop-k
invariant-loop-k l = (c : Case) (s : State) → Acts c l.issued l.acts s → SetOf (8 + l.k) (releases s l.x) l.items
