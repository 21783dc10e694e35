-- What turning a text into a block answers. Assumes nothing.
use Rattle.std.specs.Prelude.{◌≡◌, ◌&&◌, not, cond, List, [], ◌∷◌, ℕ, eqb, replicate}
use Rattle.words.specs.Refusals.{◌when◌, first_code_of}
use Rattle.cases.specs.Block.{block_of}
use Rattle.texts.specs.Reading.{Reads}
use Rattle.texts.specs.declared.TextRead.{TextRead}
use Rattle.reading.specs.declared.TextBlock.{TextBlock}

-- The text's own code, 17 or 19, then 1 on a buffer that is not of 512 bytes; the block of the case that is read, or all zeros.
pub record Blocks (t : List ℕ) (size : ℕ) (r : TextBlock) (out : List ℕ) : Type 0 where
  pub read : TextRead
  pub reads : Reads t read
  pub code : r.code ≡ first_code_of (read.code when not (eqb read.code 0) ∷ 1 when not (eqb size 512) ∷ [])
  pub line : r.line ≡ read.line
  pub usual : r.usual ≡ (read.usual && eqb r.code 0)
  pub block : out ≡ cond (eqb r.code 0) (block_of read.case) (replicate size 0)
