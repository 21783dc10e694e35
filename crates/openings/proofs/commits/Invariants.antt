use Rattle.spending.specs.Words.{opens}
use Rattle.cases.specs.declared.Case.{Case}
use Rattle.openings.specs.Given.{ArraysIn}
use Rattle.orders.specs.Rows.{SetOf}
use Rattle.rules.specs.State.{State}
use Rattle.words.specs.Sets.{has}
use Prim.Native.Nat.{◌≤◌, ◌<◌, ◌-◌}
use mathlib.Core.Bool.{true}
use mathlib.Core.Path.{◌≡◌}
use Rattle.openings.proofs.commits.Given as goal

abbrev pub invariant-loop-k : goal.invariant-loop-k
invariant-loop-k l = (l.k ≤ l.m.issued) × (l.k < l.m.issued → has l.others l.k ≡ true) × ((c : Case) (s : State) → ArraysIn c s l.case.masks l.case.presets l.case.procs l.case.locs l.m.issued l.m.acts l.m.rows l.m.sets l.m.holders → SetOf l.k (opens c s 48) l.items)

abbrev pub decreases-loop-k : goal.decreases-loop-k
decreases-loop-k l = l.m.issued - l.k
