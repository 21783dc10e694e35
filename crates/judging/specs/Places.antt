-- Where the line of an instruction stands. Assumes nothing.
use Rattle.std.specs.Prelude.{List, ℕ, zero, suc, ◌+◌, ◌-◌, get_or}
use Rattle.cases.specs.Block.{proc_at, number_at}

-- How many instructions the first p processors have.
unfoldable pub instrs_before : List ℕ → ℕ → ℕ
instrs_before counts zero = 0
instrs_before counts (suc p) = instrs_before counts p + get_or counts p 0

-- The line of the instruction at a position, where `behind` is one more than the number of lines.
abbrev pub line_at : ℕ → List ℕ → ℕ → ℕ
line_at behind counts position = behind - instrs_before counts 4 + (instrs_before counts (proc_at position) + number_at position)
