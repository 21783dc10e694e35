-- The moves of a search by their positions. Assumes nothing.
use Rattle.std.specs.Prelude.{Bool, ◌&&◌, not, cond, ℕ, ◌+◌, ◌-◌, ◌/◌, ◌%◌, ◌<◌, ltb}
use Rattle.words.specs.Sets.{has}
use Rattle.cases.specs.declared.Case.{Case}
use Rattle.boards.specs.declared.Buffering.{Buffering}
use Rattle.boards.specs.Board.{Board}
use Rattle.boards.specs.Machine.{Move, run, drain, allowed}
use Rattle.boards.specs.Quiet.{Sure}

-- 0 to 3 run a processor's next instruction, 4 + 8p + b drains buffer b of processor p.
abbrev pub move_at : ℕ → Move
move_at i = cond (ltb i 4) (run i) (drain ((i - 4) / 8) ((i - 4) % 8))

-- The instructions to go after the move at position i, of n.
abbrev pub left_by : ℕ → ℕ → ℕ
left_by i n = cond (ltb i 4) (n - 1) n

-- The move at position i is allowed and not among those that are done.
abbrev pub open_at : Buffering → Case → Board → ℕ → ℕ → Bool
open_at k c b done i = not (has done i) && allowed k c b (move_at i)

-- r is a processor whose next instruction is quiet and may be run, or no processor.
pub record SureAt (k : Buffering) (c : Case) (b : Board) (r : ℕ) : Type 0 where
  pub found : r < 4 → Sure k c b r

-- The positions to look at: that of a sure instruction of processor j alone, else all.
abbrev pub first_position : ℕ → ℕ
first_position j = cond (ltb j 4) j 0

abbrev pub last_position : ℕ → ℕ
last_position j = cond (ltb j 4) (j + 1) 36
