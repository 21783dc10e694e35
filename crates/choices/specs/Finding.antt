-- What the loops of the questions find. Assumes nothing.
use Rattle.std.specs.Prelude.{◌≡◌, true, false, List, ℕ, ◌/◌, ◌%◌, ◌≤◌, ◌<◌}
use Rattle.words.specs.Small.{some_below}
use Rattle.words.specs.Sets.{has}
use Rattle.cases.specs.declared.Case.{Case}
use Rattle.rules.specs.State.{State, kind_of}
use Rattle.rules.specs.Step.{commit, step_code}
use Rattle.sure.specs.Sure.{sure_kind}
use Rattle.sure.specs.Quiet.{pending}
use Rattle.sure.specs.Dead.{DeadRead}
use Rattle.spending.specs.Words.{key_at, opens, spent_by}

-- The words of the positions from j on, before r, are those of actions that are not in the set.
pub record Readless (reads j to r : ℕ) : Type 0 where
  pub from : j ≤ r
  pub upto : r ≤ to
  pub low : (i : ℕ) → j ≤ i → i < r → i / 64 < 48
  pub skipped : (i : ℕ) → j ≤ i → i < r → has reads (i / 64) ≡ false

-- The first position from `at` on, before `end`, whose bit of the word is set and that is not spent, else `end`.
pub record FirstFresh (word : ℕ) (now : List ℕ) (at end j : ℕ) : Type 0 where
  pub from : at ≤ j
  pub upto : j ≤ end
  pub skipped : (i : ℕ) → at ≤ i → i < j → has word (i % 64) ≡ true → spent_by now (key_at i) ≡ true
  pub found : j < end → (has word (j % 64) ≡ true) × (spent_by now (key_at j) ≡ false)

-- The number of an action of a sure kind whose commit is accepted, or 48 where there is none.
pub record SureCommit (c : Case) (s : State) (j : ℕ) : Type 0 where
  pub found : j < 48 → (step_code c s (commit (s.actions j).proc j 0) ≡ 0) × (sure_kind (kind_of (s.actions j)) ≡ true)
  pub none : 48 ≤ j → (k : ℕ) → k < s.count → sure_kind (kind_of (s.actions k)) ≡ true → step_code c s (commit (s.actions k).proc k 0) ≡ 0 → ⊥

-- Position j is that of an accepted commit of a dead read.
pub record DeadAt (c : Case) (s : State) (j : ℕ) : Type 0 where
  pub low : j / 64 < 48
  pub opened : opens c s (j / 64) (j % 64) ≡ true
  pub gone : DeadRead s (j / 64)

-- Action k is a read that is accepted from some item, and no write to its location is queued.
pub record SettledRead (c : Case) (s : State) (k : ℕ) : Type 0 where
  pub opened : (e : ℕ) × (opens c s k e ≡ true)
  pub still : some_below s.count (λ j. pending (s.actions k).loc (s.actions j)) ≡ false

-- Such a read, and the set of the items that it is accepted from.
pub record Settled (c : Case) (s : State) (k sources : ℕ) : Type 0 where
  pub read : SettledRead c s k
  pub some : sources ≡ 0 → ⊥
  pub seen : (i : ℕ) → has sources i ≡ opens c s k i
