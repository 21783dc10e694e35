-- What is counted over a list of blocks. Assumes nothing.
use Rattle.std.specs.Prelude.{Bool, cond, List, [], ◌∷◌, ℕ, ◌+◌, ◌*◌, ◌/◌, ◌%◌, eqb}
use Rattle.words.specs.Small.{each, concat_map}
use Rattle.words.specs.Refusals.{first_code_of}
use Rattle.cases.specs.Block.{byte, used, refusals}

-- How many elements pass the test.
unfoldable pub count : {A : Type 0} → (A → Bool) → List A → ℕ
count f [] = 0
count f (x ∷ xs) = cond (f x) 1 0 + count f xs

-- The code of a block: the first that applies, 0 where it is accepted.
abbrev pub code_of : List ℕ → ℕ
code_of block = first_code_of (refusals block)

-- The op in slot n, which is instruction n % 12 of processor n / 12; 0 where that is not used.
abbrev pub op_at : List ℕ → ℕ → ℕ
op_at block n = cond (used block (n / 12) (n % 12)) (byte block (92 + 6 * n)) 0

-- The ops in the slots of a block.
unfoldable pub ops_of : List ℕ → List ℕ
ops_of block = each 48 (op_at block)

-- Those that are counted: a refused block has none.
abbrev pub ops_in : List ℕ → List ℕ
ops_in block = cond (eqb (code_of block) 0) (ops_of block) []

-- The sum of what f gives of the numbers.
abbrev pub total : (ℕ → ℕ) → List ℕ → ℕ
total f [] = 0
total f (k ∷ ks) = f k + total f ks

-- The codes that a whole block can get.
abbrev pub codes : List ℕ
codes = 2 ∷ 3 ∷ 4 ∷ 5 ∷ 6 ∷ 7 ∷ 19 ∷ []

module _ (blocks : List (List ℕ)) where
  -- How many of the blocks get this code.
  abbrev pub refused : ℕ → ℕ
  refused code = count (λ block. eqb (code_of block) code) blocks

  -- How many of them are accepted.
  abbrev pub accepted : ℕ
  accepted = refused 0

  -- How many instructions of this op the accepted ones have.
  abbrev pub instructions : ℕ → ℕ
  instructions op = count (λ k. eqb k op) (concat_map ops_in blocks)
