-- What the tests of echoes and of joining are given. Assumes nothing.
use Rattle.std.specs.Prelude.{◌≡◌, List, ℕ, ◌≤◌, ◌<◌, length}

-- A number of actions, and one of the fifty words.
pub record Asking (n w : ℕ) : Type 0 where
  pub issued : n ≤ 48
  pub word : w < 50

-- An issued action k, and the names at their number.
pub record Joining (n : ℕ) (names : List ℕ) (k : ℕ) : Type 0 where
  pub issued : n ≤ 48
  pub names_long : length names ≡ 32
  pub there : k < n
