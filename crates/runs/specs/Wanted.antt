-- A wanted outcome of a model, and the lowest schedule that leads to one. Assumes nothing.
use Rattle.std.specs.Prelude.{◌≡◌, Bool, true, false, List, ℕ, ◌≤◌, length}
use Rattle.words.specs.Small.{concat_map}
use Rattle.runs.specs.Model.{Model}
use Rattle.runs.specs.Outcome.{Leads, OutcomeFrom}
use Rattle.runs.specs.Listing.{below}

-- Which outcomes are wanted.
abbrev pub Wish : Type 0
Wish = List ℕ → Bool

module _ (m : Model) (W : Wish) where
  -- Some outcome within n steps from s is wanted.
  pub record WantedFrom (s : m.State) (n : ℕ) : Type 0 where
    pub registers : List ℕ
    pub outcome : OutcomeFrom m s n registers
    pub meets : W registers ≡ true

  abbrev pub Wanted : ℕ → Type 0
  Wanted = WantedFrom m.initial

  -- The schedule ts, of at most n steps, is accepted from s and ends finished, and its outcome is wanted.
  pub record Reaches (s : m.State) (n : ℕ) (ts : List m.Step) : Type 0 where
    pub end : m.State
    pub short : length ts ≤ n
    pub leads : Leads m s ts end
    pub done : m.finished end ≡ true
    pub meets : W (m.registers end) ≡ true

  -- It does, and no schedule that does is below it in byte order, where `bytes` are those of a step.
  pub record LowestFrom (bytes : m.Step → List ℕ) (s : m.State) (n : ℕ) (ts : List m.Step) : Type 0 where
    pub reaches : Reaches s n ts
    pub least : (us : List m.Step) → Reaches s n us → below (concat_map bytes us) (concat_map bytes ts) ≡ false
