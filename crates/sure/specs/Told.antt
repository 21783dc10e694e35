-- What a search has to tell: the outcomes that are wanted, and whether a run is cut. Assumes nothing.
use Rattle.std.specs.Prelude.{◌≡◌, ◌⊎◌, true, false, List, ℕ, suc}
use Rattle.cases.specs.declared.Case.{Case}
use Rattle.runs.specs.Wanted.{Wish}
use Rattle.rules.specs.Result.{finished, registers}
use Rattle.rules.specs.State.{State}
use Rattle.rules.specs.Step.{Step, step_code, after}
use Rattle.sure.specs.Spent.{Spent, Else}

-- An unfinished run of exactly n steps from a state.
pub data Open (c : Case) : State → ℕ → Type 0 where
  now : {s : State} → finished c s ≡ false → Open c s 0
  later : {s : State} {n : ℕ} (t : Step) → step_code c s t ≡ 0 → Open c (after c s t) n → Open c s (suc n)

-- A finished run of at most n steps from a state, and what it leaves in the registers.
pub data Done (c : Case) : State → ℕ → List ℕ → Type 0 where
  now : {s : State} {n : ℕ} {r : List ℕ} → finished c s ≡ true → registers c s ≡ r → Done c s n r
  later : {s : State} {n : ℕ} {r : List ℕ} (t : Step) → step_code c s t ≡ 0 → Done c (after c s t) n r → Done c s (suc n) r

-- What is asked of a search: is r an outcome, and wanted? is a run cut?
pub data Question : Type 0 where
  outcome : List ℕ → Question
  cut : Question

-- A run from s with n steps to go that says yes.
abbrev pub Run : Case → Wish → Question → State → ℕ → Type 0
Run c W (outcome r) s n = Done c s n r × (W r ≡ true)
Run c W cut s n = Open c s n

-- The contract of a search from s with n steps to go and the steps sp spent, that had told B before and has told X after it: it
-- forgets nothing, tells nothing untrue, and misses only runs that may begin with a spent step.
pub record Told (c : Case) (W : Wish) (sp : Spent) (s : State) (n : ℕ) (B X : Question → Type 0) : Type 0 where
  pub kept : (q : Question) → B q → X q
  pub sound : (q : Question) → X q → B q ⊎ Run c W q s n
  pub full : (q : Question) → Run c W q s n → X q ⊎ Else c sp (Run c W q) s n
