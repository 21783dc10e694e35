-- What a step of the machine is given, and what it gives back. Assumes nothing.
use Rattle.std.specs.Prelude.{◌≡◌}
use Rattle.cases.specs.declared.Case.{Case}
use Rattle.rules.specs.State.{State}
use Rattle.rules.specs.Step.{Step, step_code}
use Rattle.machine.specs.declared.Machine.{Machine}
use Rattle.machine.specs.Shown.{shown}
use Rattle.machine.specs.Valid.{Valid}

-- A machine, and a step that nothing refuses.
pub record Accepted (c : Case) (m : Machine) (t : Step) : Type 0 where
  pub valid : Valid c m
  pub fits : step_code c (shown c m) t ≡ 0

-- r shows the state s.
pub record Showing (c : Case) (s : State) (r : Machine) : Type 0 where
  pub shows : shown c r ≡ s
  pub valid : Valid c r
