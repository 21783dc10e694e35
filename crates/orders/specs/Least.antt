-- The least number of a set. Assumes nothing.
use Rattle.std.specs.Prelude.{◌≡◌, true, false, ℕ, ◌≤◌, ◌<◌}
use Rattle.words.specs.Sets.{has}

-- r is the least number of the set x, or 64 where it is empty.
pub record Least (x r : ℕ) : Type 0 where
  pub upto : r ≤ 64
  pub low : 0 < x → r < 64
  pub inside : r < 64 → has x r ≡ true
  pub first : (a : ℕ) → a < r → has x a ≡ false
