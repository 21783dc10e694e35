use Rattle.choices.proofs.Answers.{NoSure}
use Rattle.openings.specs.Given.{ArraysIn}
use Rattle.cases.specs.declared.Case.{Case}
use Rattle.rules.specs.State.{State}
use Rattle.words.specs.Sets.{has}
use Prim.Native.Nat.{◌≤◌, ◌<◌, ◌-◌}
use mathlib.Core.Bool.{true}
use mathlib.Core.Path.{◌≡◌}
use Rattle.choices.proofs.sure_commit.Given as goal

abbrev pub invariant-loop-k : goal.invariant-loop-k
invariant-loop-k l = (l.k ≤ l.m.issued) × (l.k < l.m.issued → has l.sure l.k ≡ true) × ((c : Case) (s : State) → ArraysIn c s l.case.masks l.case.presets l.case.procs l.case.locs l.m.issued l.m.acts l.m.rows l.m.sets l.m.holders → NoSure c s l.k)

abbrev pub decreases-loop-k : goal.decreases-loop-k
decreases-loop-k l = l.m.issued - l.k
