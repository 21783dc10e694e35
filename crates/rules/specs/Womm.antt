-- The rules of a case, as a model. Assumes nothing.
use Rattle.cases.specs.declared.Case.{Case}
use Rattle.runs.specs.Model.{Model}
use Rattle.rules.specs.State.{State, initial}
use Rattle.rules.specs.Step.{Step, step_code, after}
use Rattle.rules.specs.Result.{finished, registers}

abbrev pub womm : Case → Model
womm c =
    record {
      State = State;
      Step = Step;
      initial = initial c;
      code = step_code c;
      next = after c;
      finished = finished c;
      registers = registers c;
    }
