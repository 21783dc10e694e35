-- Document 02, request 08: what is printed of a shelf. Assumes nothing.
use Rattle.std.specs.Prelude.{cond, List, ◌++◌, ℕ, ltb, length, get_or}
use Rattle.words.specs.Small.{counting, concat_map}
use Rattle.lines.specs.Quoted.{quoted}
use Rattle.lines.specs.Decimal.{decimal}
use Rattle.shelves.specs.Blocks.{blocks_of, left_over}
use Rattle.shelves.specs.declared.Reading.{Reading}
use Rattle.shelves.specs.Counts.{codes, refused, instructions}

-- A word and a number.
unfoldable pub number_line : List ℕ → ℕ → List ℕ
number_line word n = word ++ (decimal n ++ quoted "\n")

-- A word, what is counted, and how many there are.
unfoldable pub count_line : List ℕ → ℕ → ℕ → List ℕ
count_line word k n = word ++ (decimal k ++ (quoted " " ++ (decimal n ++ quoted "\n")))

-- A line for each of several things that are counted.
abbrev pub count_lines : List ℕ → (ℕ → ℕ) → List ℕ → List ℕ
count_lines word counts = concat_map (λ k. count_line word k (counts k))

-- The lines of blocks by their code.
unfoldable pub block_lines : ℕ → (ℕ → ℕ) → List ℕ
block_lines blocks by_code =
    number_line (quoted "blocks ") blocks
    ++ (number_line (quoted "accepted ") (by_code 0) ++ count_lines (quoted "refused ") by_code codes)

-- The lines of what is left over, and of instructions by their op.
unfoldable pub other_lines : ℕ → (ℕ → ℕ) → List ℕ
other_lines over byOp = number_line (quoted "over ") over ++ count_lines (quoted "op ") byOp (counting 1 10)

-- All that is printed of these numbers, in its order: over 65,535 whole blocks get 16, and nothing else.
abbrev pub text_with : ℕ → (ℕ → ℕ) → ℕ → (ℕ → ℕ) → List ℕ
text_with blocks by_code over byOp = cond (ltb 65535 blocks) (number_line (quoted "refused ") 16) (block_lines blocks by_code ++ other_lines over byOp)

-- The report of a file: the numbers are counts over its whole blocks.
unfoldable pub report_of : List ℕ → List ℕ
report_of file = let blocks = blocks_of file in text_with (length blocks) (refused blocks) (length (left_over file)) (instructions blocks)

-- The text of a reading: the numbers are those of its tally.
unfoldable pub text_of : Reading → List ℕ
text_of r = text_with r.tally.blocks (λ code. get_or r.tally.codes code 0) r.over (λ op. get_or r.tally.ops op 0)
