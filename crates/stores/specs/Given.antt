-- What the question whether a processor's buffers hold a store is given. Assumes nothing.
use Rattle.std.specs.Prelude.{ℕ, ◌≤◌, ◌<◌}

pub record Holding (locs p : ℕ) : Type 0 where
  pub proc : p < 4
  pub few_locs : locs ≤ 8
