-- Where a search goes on: after the step at a position, or, where the position is 3200 or more, at the state itself. Assumes nothing.
use Rattle.std.specs.Prelude.{◌≡◌, cond, List, ℕ, ◌≤◌, ◌<◌, ltb}
use Rattle.cases.specs.declared.Case.{Case}
use Rattle.rules.specs.State.{State}
use Rattle.rules.specs.Step.{after}
use Rattle.sure.specs.Spent.{step_by}
use Rattle.spending.specs.Words.{key_at}
use Rattle.spending.specs.Spending.{RestedBy}

-- The state there.
abbrev pub entered : Case → State → ℕ → State
entered c s i = cond (ltb i 3200) (after c s (step_by s (key_at i))) s

-- The words of what stays spent there.
pub record Woken (s : State) (i : ℕ) (spent calm : List ℕ) : Type 0 where
  pub step : i < 3200 → RestedBy s (step_by s (key_at i)) spent calm
  pub none : 3200 ≤ i → calm ≡ spent
