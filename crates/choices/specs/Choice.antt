-- What the questions of a search answer. Assumes nothing.
use Rattle.std.specs.Prelude.{◌≡◌, Bool, true, false, List, ℕ, ◌≤◌, ◌<◌}
use Rattle.words.specs.Sets.{has}
use Rattle.cases.specs.declared.Case.{Case}
use Rattle.rules.specs.State.{State, kind_of}
use Rattle.rules.specs.Step.{step_code}
use Rattle.sure.specs.Sure.{sure_kind}
use Rattle.sure.specs.Marked.{Alone}
use Rattle.sure.specs.Quiet.{quiet}
use Rattle.sure.specs.Spent.{taking, step_by}
use Rattle.sure.specs.Equal.{Needless}
use Rattle.spending.specs.Words.{key_at, opens, opens_at, spent_by}

-- Below 3200, the position of an accepted step that may be taken alone, with n steps to go, where `marked` says whether the cut mark is set. From 3200 on, no commit of a sure kind is accepted; another step might be taken alone all the same.
pub record SureAt (c : Case) (marked : Bool) (n : ℕ) (s : State) (j : ℕ) : Type 0 where
  pub found : j < 3200 → (step_code c s (step_by s (key_at j)) ≡ 0) × Alone c marked n s (step_by s (key_at j))
  pub none : 3200 ≤ j → (k : ℕ) → k < s.count → sure_kind (kind_of (s.actions k)) ≡ true → step_code c s (step_by s (taking k 0)) ≡ 0 → ⊥

-- Below 48, the number of a quiet read that is accepted from some item, and the set of those items. From 48 on nothing is said: there may be one all the same.
pub record QuietAt (c : Case) (s : State) (k sources : ℕ) : Type 0 where
  pub found : k < 48 → (quiet c s k ≡ true) × ((e : ℕ) × (step_code c s (step_by s (taking k e)) ≡ 0))
  pub some : k < 48 → sources ≡ 0 → ⊥
  pub seen : k < 48 → (i : ℕ) → has sources i ≡ opens c s k i

-- The first position from `at` on whose step is accepted and neither spent nor needless, or `to` where there is none before it.
pub record NextAt (c : Case) (s : State) (now : List ℕ) (at to j : ℕ) : Type 0 where
  pub from : at ≤ j
  pub upto : j ≤ to
  pub skipped : (i : ℕ) → at ≤ i → i < j → opens_at c s i ≡ true → Needless c s (spent_by now) (key_at i)
  pub found : j < to → (opens_at c s j ≡ true) × (spent_by now (key_at j) ≡ false)
