use Rattle.choices.proofs.Next.{Passed}
use Rattle.cases.specs.declared.Case.{Case}
use Rattle.machine.specs.Shown.{shown}
use Rattle.machine.specs.Valid.{Valid}
use Rattle.machine.specs.Lent.{machine_of, Lent}
use Prim.Native.Nat.{◌≤◌, ◌-◌}
use mathlib.Core.Path.{◌≡◌}
use Rattle.choices.proofs.next_step.Given as goal

abbrev pub invariant-loop-j : goal.invariant-loop-j
invariant-loop-j l =
    (l.at ≤ l.j) × (l.j ≤ l.to) × ((c : Case) → Lent c l.program l.case.counts l.case.masks l.case.presets l.case.procs l.case.locs → c.memory ≡ l.case.memory → Valid c (machine_of l.m.issued l.m.places l.m.names l.m.holders l.m.acts l.m.rows l.m.sets) → Passed c (shown c (machine_of l.m.issued l.m.places l.m.names l.m.holders l.m.acts l.m.rows l.m.sets)) l.spent l.at l.j)

abbrev pub decreases-loop-j : goal.decreases-loop-j
decreases-loop-j l = l.to - l.j
