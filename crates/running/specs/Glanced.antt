-- What a search looks at before it runs an instruction. Assumes nothing.
use Rattle.std.specs.Prelude.{◌≡◌, ℕ}
use Rattle.cases.specs.declared.Case.{Case}
use Rattle.boards.specs.declared.Buffering.{Buffering}
use Rattle.boards.specs.Board.{Board}
use Rattle.boards.specs.Run.{instruction, operand}
use Rattle.boards.specs.Quiet.{quiet as is_quiet}
use Rattle.running.specs.declared.Next.{Next}

-- g is the next instruction of processor p, with its address and its quiet.
pub record Glanced (k : Buffering) (c : Case) (b : Board) (p : ℕ) (g : Next) : Type 0 where
  pub instr : g.instr ≡ instruction k c b p
  pub at : g.at ≡ operand k c b p 0
  pub quiet : g.quiet ≡ is_quiet k c b p
