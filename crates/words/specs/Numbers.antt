-- A number that is handed back with a bound. Assumes nothing.
use Rattle.std.specs.Prelude.{◌≡◌, ℕ, ◌<◌}

-- r is n, and below the bound.
pub record Exact (n bound r : ℕ) : Type 0 where
  pub is : r ≡ n
  pub low : r < bound
