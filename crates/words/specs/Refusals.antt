-- Codes in the order they are tried. Assumes nothing.
use Rattle.std.specs.Prelude.{Bool, cond, List, [], ◌∷◌, ℕ}

-- A code and the test under which it applies.
infix 80 ◌when◌
pub data Refusal : Type 0 where
  ◌when◌ : ℕ → Bool → Refusal

-- The first code that applies, and 0 where none does.
unfoldable pub first_code_of : List Refusal → ℕ
first_code_of [] = 0
first_code_of (code when test ∷ rest) = cond test code (first_code_of rest)
