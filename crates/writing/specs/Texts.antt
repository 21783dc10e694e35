-- What turning a block into a text answers. Assumes nothing.
use Rattle.std.specs.Prelude.{◌≡◌, cond, List, ℕ, eqb, replicate}
use Rattle.cases.specs.Block.{read_of}
use Rattle.texts.specs.Writing.{text_fault, text_written}
use Rattle.texts.specs.declared.TextWritten.{TextWritten}

-- The block's own code with its position, then what writing the case that it holds answers; the text, or all zeros.
pub record Texts (b : List ℕ) (size : ℕ) (r : TextWritten) (out : List ℕ) : Type 0 where
  pub answer : r ≡ cond (eqb (read_of b).code 0) (text_fault (read_of b).case size) (record { code = (read_of b).code; length = 0; position = (read_of b).position })
  pub text : out ≡ cond (eqb (read_of b).code 0) (text_written (read_of b).case size) (replicate size 0)
