-- Document 01: 'Each line: every present processor and its registers 0 to 7, `-` undefined.' Assumes nothing.
use Rattle.std.specs.Prelude.{Bool, cond, List, [], ◌++◌, ℕ, ◌+◌, ◌*◌, eqb, length, get_or}
use Rattle.words.specs.Small.{counting, concat_map}
use Rattle.lines.specs.Quoted.{quoted}
use Rattle.lines.specs.Decimal.{decimal}
use Rattle.lines.specs.Answers.{header_line}

-- A register's three bytes: '0,0,0 if undefined, else 1, high byte, low byte'.
unfoldable pub register : ℕ → ℕ → ℕ → List ℕ
register defined high low = cond (eqb defined 0) (quoted "-") (decimal (256 * high + low))

-- Register k of processor p, which stands at 24p + 3k of an outcome, and a space before it.
unfoldable pub register_at : List ℕ → ℕ → ℕ → List ℕ
register_at outcome p k = quoted " " ++ register (get_or outcome (24 * p + 3 * k) 0) (get_or outcome (24 * p + 3 * k + 1) 0) (get_or outcome (24 * p + 3 * k + 2) 0)

-- Registers 0 to 7 of processor p.
unfoldable pub registers : List ℕ → ℕ → List ℕ
registers outcome p = concat_map (register_at outcome p) (counting 0 8)

-- A space before every processor but the first.
abbrev pub gap : ℕ → List ℕ
gap p = cond (eqb p 0) [] (quoted " ")

-- Processor p and its registers.
unfoldable pub processor : List ℕ → ℕ → List ℕ
processor outcome p = gap p ++ (quoted "p" ++ (decimal p ++ registers outcome p))

-- The line of an outcome.
unfoldable pub outcome_line : ℕ → List ℕ → List ℕ
outcome_line procs outcome = concat_map (processor outcome) (counting 0 procs) ++ quoted "\n"

-- The whole list: the header, and a line for each outcome.
unfoldable pub list_text : ℕ → Bool → List (List ℕ) → List ℕ
list_text procs cut outcomes = header_line (length outcomes) cut ++ concat_map (outcome_line procs) outcomes
