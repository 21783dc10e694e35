-- The states that a model's runs come to. Assumes nothing.
use Rattle.std.specs.Prelude.{List}
use Rattle.runs.specs.Model.{Model}
use Rattle.runs.specs.Outcome.{Leads}

-- An accepted schedule leads from the start to s.
pub record Reachable (m : Model) (s : m.State) : Type 0 where
  pub schedule : List m.Step
  pub leads : Leads m m.initial schedule s
