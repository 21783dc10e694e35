-- The first place of a byte, and what lies between two places. Assumes nothing.
use Rattle.std.specs.Prelude.{◌≡◌, cond, List, ℕ, ◌+◌, ◌-◌, ◌<◌, ◌≤◌, ltb, length, get_or, take, drop}

-- r is the first place of byte b from a position on, or the end.
pub record Found (b : ℕ) (p : List ℕ) (from r : ℕ) : Type 0 where
  pub low : from ≤ r
  pub high : r ≤ length p
  pub none : (i : ℕ) → from ≤ i → i < r → get_or p i 0 ≡ b → ⊥
  pub here : r < length p → get_or p r 0 ≡ b

-- Where the word behind a word's end begins, in a line of length n: its end where there is none.
abbrev pub next_word : ℕ → ℕ → ℕ
next_word n end = cond (ltb end n) (end + 1) n

-- The bytes from one position up to another.
abbrev pub part : ℕ → ℕ → List ℕ → List ℕ
part from to p = take (to - from) (drop from p)
