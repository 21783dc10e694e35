-- What is known of each reachable state. Assumes nothing.
use mathlib.Core.Path.{◌≡◌, refl}
use Rattle.cases.specs.declared.Case.{Case}
use Rattle.runs.specs.Reachable.{Reachable}
use Rattle.runs.proofs.Always.{always_after}
use Rattle.runs.proofs.Walk.{stop, go}
use Rattle.rules.specs.State.{State}
use Rattle.rules.specs.Step.{Step, step_code, after}
use Rattle.rules.specs.Womm.{womm}
use Rattle.rules.proofs.Origins.{Bound, bound}
use Rattle.sure.proofs.Firm.{Firm, firm_step, firm_initial}
use Rattle.sure.proofs.Whole.{Reached, reached, reached-initial}

pub record Known (c : Case) (s : State) : Type 0 where
  pub reached : Reached c s
  pub firm : Firm s
  pub names : Bound c s

-- the two that follow a step by themselves
abbrev Steady : Case → State → Type 0
Steady c s = Reached c s × Firm s

steady_after : (c : Case) (s : State) (t : Step) → step_code c s t ≡ 0 → Steady c s → Steady c (after c s t)
steady_after c s t h k = (reached c (go h (stop refl)) k.0, firm_step c s k.0.good k.1 t h)

pub known : {c : Case} {s : State} → Reachable (womm c) s → Known c s
known {c} {s} r =
    let k = always_after (womm c) (Steady c) (steady_after c) (reached-initial c, firm_initial c) r.schedule s r.leads in
    record { reached = k.0; firm = k.1; names = bound c r.schedule s r.leads }
