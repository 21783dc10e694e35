-- What a row of a table of small cases says of the rules. Assumes nothing.
use Rattle.std.specs.Prelude.{◌≡◌, ℕ, Bool, true, ◌↔◌, List, [], ◌∷◌}
use Rattle.std.proofs.Math.Option.{Option}
use Rattle.cases.specs.declared.Case.{Case}
use Rattle.cases.specs.Block.{Sound}
use Rattle.runs.specs.Replay.{replay}
use Rattle.runs.specs.Outcome.{Outcome, Cut}
use Rattle.runs.specs.Listing.{RecordsOf}
use Rattle.rules.specs.State.{State, initial}
use Rattle.rules.specs.Step.{Step, replay_place}
use Rattle.rules.specs.Result.{finished, register_of}
use Rattle.rules.specs.Womm.{womm}

-- A row.
pub data Claim : Type 0 where
  -- the case, the bound, the records and the cut mark
  lists : Case → ℕ → List (List ℕ) → Bool → Claim
  -- the case, the schedule, the steps taken and the code
  replays : Case → List Step → ℕ → ℕ → Claim
  -- the case, the schedule, the code and the place
  names : Case → List Step → ℕ → ℕ → Claim
  -- the case and a schedule that finishes it
  finishes : Case → List Step → Claim
  -- the case, an accepted schedule, a processor, a register and what it then holds
  leaves : Case → List Step → ℕ → ℕ → Option ℕ → Claim
  -- the case, an accepted schedule, a location, two items and whether the first then stands before the second
  orders : Case → List Step → ℕ → ℕ → ℕ → Bool → Claim

-- The state that a schedule leads to.
abbrev pub reached : Case → List Step → State
reached c ts = (replay (womm c) (initial c) ts).state

-- The code of a schedule.
abbrev pub code_of : Case → List Step → ℕ
code_of c ts = (replay (womm c) (initial c) ts).code

-- The place that it returns.
abbrev pub place_at : Case → List Step → ℕ
place_at c ts = replay_place c ts (replay (womm c) (initial c) ts)

-- The case of a row.
abbrev pub case_in : Claim → Case
case_in (lists c n rs cut) = c
case_in (replays c ts taken code) = c
case_in (names c ts code place) = c
case_in (finishes c ts) = c
case_in (leaves c ts p k v) = c
case_in (orders c ts l a b r) = c

-- What a row says.
abbrev pub Says : Claim → Type 0
Says (lists c n rs cut) = RecordsOf (Outcome (womm c) n) rs × ((cut ≡ true) ↔ Cut (womm c) n)
Says (replays c ts taken code) = ((replay (womm c) (initial c) ts).taken ≡ taken) × (code_of c ts ≡ code)
Says (names c ts code place) = (code_of c ts ≡ code) × (place_at c ts ≡ place)
Says (finishes c ts) = (code_of c ts ≡ 0) × (finished c (reached c ts) ≡ true)
Says (leaves c ts p k v) = (code_of c ts ≡ 0) × (register_of c (reached c ts) p k ≡ v)
Says (orders c ts l a b r) = (code_of c ts ≡ 0) × ((reached c ts).orders l a b ≡ r)

-- A row holds: its case is sound, and what it says is so.
abbrev pub Holds : Claim → Type 0
Holds k = Sound (case_in k) × Says k

-- Every row of a table.
abbrev pub Every : {A : Type 0} → (A → Type 0) → List A → Type 0
Every P [] = Unit {0}
Every P (x ∷ xs) = P x × Every P xs
