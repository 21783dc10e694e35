-- A set of numbers below 64 as one number: k is in it if bit k is set. Assumes nothing.
use Rattle.std.specs.Prelude.{Bool, ℕ, ◌/◌, ◌%◌, ◌^◌, eqb}

-- k is in the set x.
abbrev pub has : ℕ → ℕ → Bool
has x k = eqb (x / 2 ^ k % 2) 1
