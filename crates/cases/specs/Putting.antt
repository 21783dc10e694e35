-- Bytes put into a buffer from the front on. Assumes nothing.
use Rattle.std.specs.Prelude.{◌≡◌, List, ◌++◌, ℕ, ◌+◌, length, take}

-- The buffer holds what it held before a position, and then the new bytes; of what follows nothing is said.
pub record Put (before : List ℕ) (at : ℕ) (new after : List ℕ) : Type 0 where
  pub long : length after ≡ length before
  pub front : take (at + length new) after ≡ take at before ++ new
