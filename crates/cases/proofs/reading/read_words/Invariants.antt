use mathlib.Core.Path.{◌≡◌}
use Prim.Native.Nat.{ℕ, ◌+◌, ◌*◌, ◌<◌}
use lib.ListN.{length, get_or}
use Rattle.cases.specs.Block.{word}
use Rattle.cases.proofs.reading.read_words.Given as goal

-- The words passed are those of the block.
abbrev pub invariant-loop-n : goal.invariant-loop-n
invariant-loop-n g l = (length l.words ≡ g.row.N) × ((k : ℕ) → k < l.n → get_or l.words k 0 ≡ word l.block (l.at + 2 * k))
