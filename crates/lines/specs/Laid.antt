-- A text that is laid into a lent slice. Assumes nothing.
use Rattle.std.specs.Prelude.{◌≡◌, List, [], ◌∷◌, ◌++◌, ℕ, suc, ◌+◌, ◌≤◌, min, max, length, set, drop}

-- The bytes with a text over them from a position on; what would stand past their end is left out.
unfoldable pub laid : List ℕ → ℕ → List ℕ → List ℕ
laid bytes at [] = bytes
laid bytes at (b ∷ text) = laid (set bytes at b) (suc at) text

-- The position behind the text, or the end of the bytes where the text reaches it.
abbrev pub behind : List ℕ → ℕ → List ℕ → ℕ
behind bytes at text = max at (min (at + length text) (length bytes))

-- The text was laid into the bytes `before` at a position, and ends where it says.
pub record Laid (before : List ℕ) (at : ℕ) (text after : List ℕ) (end : ℕ) : Type 0 where
  pub bytes : after ≡ laid before at text
  pub ends : end ≡ behind before at text

-- The same of a text of at most so many bytes.
pub record LaidShort (most : ℕ) (before : List ℕ) (at : ℕ) (text after : List ℕ) (end : ℕ) : Type 0 where
  pub laid : Laid before at text after end
  pub short : length text ≤ most

-- The whole text stands at the start of the bytes and ends where it says; what stands behind it is as it was.
pub record Printed (text before after : List ℕ) (end : ℕ) : Type 0 where
  pub bytes : after ≡ text ++ drop (length text) before
  pub ends : end ≡ length text
