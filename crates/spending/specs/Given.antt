-- What a spent step and its rest are given. Assumes nothing.
use Rattle.std.specs.Prelude.{◌≡◌, List, ℕ, ◌≤◌, ◌<◌, length}

-- A position, and the words of the spent steps at their number.
pub record Noting (spent : List ℕ) (j : ℕ) : Type 0 where
  pub low : j < 3200
  pub long : length spent ≡ 50

-- The same, with a number of actions that a case can have.
pub record Resting (n : ℕ) (spent : List ℕ) (j : ℕ) : Type 0 where
  pub issued : n ≤ 48
  pub low : j < 3200
  pub long : length spent ≡ 50
