-- Document 01, 'How it is called' and the header of a list: the lines that hold codes and counts. Assumes nothing.
use Rattle.std.specs.Prelude.{Bool, cond, ◌&&◌, ◌||◌, List, ◌++◌, ℕ, eqb, ltb}
use Rattle.lines.specs.Quoted.{quoted}
use Rattle.lines.specs.Decimal.{decimal}

-- A code of the block: 1 to 7 and 19.
abbrev pub of_block : ℕ → Bool
of_block code = (ltb 0 code && ltb code 8) || eqb code 19

-- The end of a line. Request 02: '`replay` and `outcomes` end a block code's line with ` at ` and the position.'
unfoldable pub ending : ℕ → ℕ → List ℕ
ending code position = cond (of_block code) (quoted " at " ++ (decimal position ++ quoted "\n")) (quoted "\n")

-- 'A refusal prints `refused C` alone.'
unfoldable pub refusal_line : ℕ → ℕ → List ℕ
refusal_line code position = quoted "refused " ++ (decimal code ++ ending code position)

-- '`code C after S steps`'
unfoldable pub replay_line : ℕ → ℕ → ℕ → List ℕ
replay_line code steps position = quoted "code " ++ (decimal code ++ (quoted " after " ++ (decimal steps ++ (quoted " steps" ++ ending code position))))

-- 'Header: count, cut mark.'
unfoldable pub header_line : ℕ → Bool → List ℕ
header_line count cut = quoted "outcomes " ++ (decimal count ++ cond cut (quoted " cut yes\n") (quoted " cut no\n"))
