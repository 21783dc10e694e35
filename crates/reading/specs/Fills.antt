-- What reading a text leaves in a buffer of a block's size. Assumes nothing.
use Rattle.std.specs.Prelude.{◌≡◌, cond, List, ℕ, eqb, replicate}
use Rattle.cases.specs.Block.{block_of}
use Rattle.texts.specs.Reading.{Reads}
use Rattle.texts.specs.declared.TextRead.{TextRead}

-- The text is read, and the buffer holds the block of the case, or all zeros.
pub record Fills (t : List ℕ) (size : ℕ) (r : TextRead) (out : List ℕ) : Type 0 where
  pub reads : Reads t r
  pub block : out ≡ cond (eqb r.code 0) (block_of r.case) (replicate size 0)
