use Prim.Native.Nat.{◌+◌, ◌*◌}
use lib.ListN.{length, take}
use Rattle.lines.specs.Laid.{LaidShort}
use Rattle.texts.specs.Rows.{numbered}
use Rattle.texts.proofs.rows.numbered.Given as goal

-- The word and the first numbers are laid. Assumes nothing.
abbrev pub invariant-loop-n : goal.invariant-loop-n
invariant-loop-n l = LaidShort (length l.word + 6 * l.n-index) l.fn.text l.at (numbered l.word (take l.n-index l.numbers)) l.text l.end
