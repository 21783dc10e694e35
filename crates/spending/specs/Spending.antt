-- What is spent once a step is noted, or taken. Assumes nothing.
use Rattle.std.specs.Prelude.{◌≡◌, ◌⊎◌, true, false, ◌&&◌, not, List, ℕ, ◌≤◌, ◌<◌, length, get_or}
use Rattle.words.specs.Sets.{has}
use Rattle.rules.specs.State.{State}
use Rattle.rules.specs.Step.{Step}
use Rattle.sure.specs.Spent.{Key, wakes}
use Rattle.spending.specs.Words.{key_at, spent_by}

-- The words with the key at position j spent too.
pub record Noted (now : List ℕ) (j : ℕ) (more : List ℕ) : Type 0 where
  pub long : length more ≡ 50
  pub kept : (a : Key) → spent_by now a ≡ true → spent_by more a ≡ true
  pub new : spent_by more (key_at j) ≡ true
  pub only : (a : Key) → spent_by more a ≡ true → (spent_by now a ≡ true) ⊎ (a ≡ key_at j)

-- Some of what the words say is spent, and nothing that the step t, taken at s, wakes.
pub record RestedBy (s : State) (t : Step) (now less : List ℕ) : Type 0 where
  pub long : length less ≡ 50
  pub calm : (a : Key) → spent_by less a ≡ true → (spent_by now a ≡ true) × (wakes s t a ≡ false)

-- Of the words `now`, those below n and word 48 have lost what stands for the commits of the actions in the set `gone`.
pub record Cleared (now : List ℕ) (gone n : ℕ) (less : List ℕ) : Type 0 where
  pub long : length less ≡ 50
  pub low : (k : ℕ) → k < n → (a : ℕ) → has (get_or less k 0) a ≡ (has (get_or now k 0) a && not (has gone k))
  pub lone : (a : ℕ) → has (get_or less 48 0) a ≡ (has (get_or now 48 0) a && not (has gone a))
  pub others : (k : ℕ) → n ≤ k → (k ≡ 48 → ⊥) → get_or less k 0 ≡ get_or now k 0
