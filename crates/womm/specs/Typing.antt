-- What the exports for texts hand back, each as one statement. Assumes nothing.
use Rattle.std.specs.Prelude.{◌≡◌, List, ℕ}
use Rattle.reading.specs.Blocks.{Blocks}
use Rattle.reading.specs.declared.TextBlock.{TextBlock}
use Rattle.writing.specs.Texts.{Texts}
use Rattle.womm.specs.Exports.{mark_of}

-- A text is read, into a block buffer of this size: the code r, the line n, the mark u of a usual bound that was dropped, the buffer's bytes out.
pub record TextReadAs (text : List ℕ) (size r n u : ℕ) (out : List ℕ) : Type 0 where
  pub answer : TextBlock
  pub blocks : Blocks text size answer out
  pub code : r ≡ answer.code
  pub line : n ≡ answer.line
  pub usual : u ≡ mark_of answer.usual

-- The text of a block is written, into a buffer of this size: the code r, the text's length n, the position at, the buffer's bytes out.
pub record TextWrittenAs (block : List ℕ) (size r n at : ℕ) (out : List ℕ) : Type 0 where
  pub texts : Texts block size (record { code = r; length = n; position = at }) out
