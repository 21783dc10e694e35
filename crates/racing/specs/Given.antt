-- What the tests of races are given. Assumes nothing.
use Rattle.std.specs.Prelude.{ℕ, ◌≤◌, ◌<◌}

-- An issued action j.
pub record One (n j : ℕ) : Type 0 where
  pub issued : n ≤ 48
  pub there : j < n

-- Two of them.
pub record Two (n j k : ℕ) : Type 0 where
  pub issued : n ≤ 48
  pub first : j < n
  pub second : k < n
