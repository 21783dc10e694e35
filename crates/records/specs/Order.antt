-- Bytes as numbers, first byte first. Assumes nothing.
use Rattle.std.specs.Prelude.{◌≡◌, List, ℕ, ◌+◌, ◌*◌, ◌≤◌, ◌<◌, length, get_or}

-- The number that the four bytes from position i on are.
abbrev pub four_at : List ℕ → ℕ → ℕ
four_at s i = 256 * (256 * (256 * get_or s i 0 + get_or s (i + 1) 0) + get_or s (i + 2) 0) + get_or s (i + 3) 0

-- The number that the eight bytes from position i on are.
abbrev pub eight_at : List ℕ → ℕ → ℕ
eight_at s i = 4294967296 * four_at s i + four_at s (i + 4)

-- r is n, which is below the bound; and s, of which it was read, are bytes.
pub record Number (s : List ℕ) (n bound r : ℕ) : Type 0 where
  pub is : r ≡ n
  pub low : r < bound
  pub bytes : (k : ℕ) → get_or s k 0 < 256

-- Two byte strings of one length, the same before position n.
pub record Alike (a b : List ℕ) (n : ℕ) : Type 0 where
  pub long : length a ≡ length b
  pub within : n ≤ length a
  pub same : (k : ℕ) → k < n → get_or a k 0 ≡ get_or b k 0
