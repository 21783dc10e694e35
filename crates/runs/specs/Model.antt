-- A machine as its rules give it. Assumes nothing.
use Rattle.std.specs.Prelude.{Bool, List, ℕ}

pub record Model : Type 1 where
  pub State : Type 0
  pub Step : Type 0
  pub initial : State
  -- The code that a step gets in a state: 0 if it is accepted.
  pub code : State → Step → ℕ
  -- The state after an accepted step.
  pub next : State → Step → State
  pub finished : State → Bool
  -- The bytes of the registers.
  pub registers : State → List ℕ
