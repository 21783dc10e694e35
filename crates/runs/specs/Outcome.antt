-- What the runs of a model can leave. Assumes nothing.
use Rattle.std.specs.Prelude.{◌≡◌, true, false, List, ℕ, ◌≤◌, length}
use Rattle.runs.specs.Model.{Model}
use Rattle.runs.specs.Replay.{replay}

module _ (m : Model) where
  -- The schedule ts is accepted from s and leads to e.
  pub record Leads (s : m.State) (ts : List m.Step) (e : m.State) : Type 0 where
    pub accepted : (replay m s ts).code ≡ 0
    pub ends : (replay m s ts).state ≡ e

  -- A finished run of at most n steps from s leaves r in the registers.
  pub record OutcomeFrom (s : m.State) (n : ℕ) (r : List ℕ) : Type 0 where
    pub schedule : List m.Step
    pub end : m.State
    pub short : length schedule ≤ n
    pub leads : Leads s schedule end
    pub done : m.finished end ≡ true
    pub gives : m.registers end ≡ r

  -- An accepted schedule of exactly n steps from s ends unfinished.
  pub record CutFrom (s : m.State) (n : ℕ) : Type 0 where
    pub schedule : List m.Step
    pub end : m.State
    pub exact : length schedule ≡ n
    pub leads : Leads s schedule end
    pub undone : m.finished end ≡ false

  abbrev pub Outcome : ℕ → List ℕ → Type 0
  Outcome = OutcomeFrom m.initial

  abbrev pub Cut : ℕ → Type 0
  Cut = CutFrom m.initial
