-- The instructions that a search takes alone. Assumes nothing.
use Rattle.std.specs.Prelude.{◌≡◌, Bool, true, ◌&&◌, ◌||◌, not, ℕ}
use Rattle.words.specs.Small.{is_none}
use Rattle.cases.specs.declared.Case.{Case}
use Rattle.rules.specs.Kinds.{kind, reading, writing, syncs}
use Rattle.boards.specs.declared.Buffering.{Buffering}
use Rattle.boards.specs.Board.{slot, Board}
use Rattle.boards.specs.Run.{instruction, operand}
use Rattle.boards.specs.Machine.{run, allowed}

-- The next instruction of processor p neither reads memory, nor reaches it, nor looks at a lock: a local, a branch, a goto, or a write that enters a buffer.
unfoldable pub quiet : Buffering → Case → Board → ℕ → Bool
quiet k c b p =
    let i = kind (instruction k c b p) in
    not (reading i || syncs i) && not (writing i && is_none (slot k (operand k c b p 0)))

-- It is quiet, and nothing bars it.
pub record Sure (k : Buffering) (c : Case) (b : Board) (p : ℕ) : Type 0 where
  pub can : allowed k c b (run p) ≡ true
  pub calm : quiet k c b p ≡ true
