-- The first i blocks of the file are counted. Assumes nothing.
use Rattle.std.proofs.Common.{◌≡◌}
use Rattle.words.specs.Small.{each}
use Rattle.shelves.specs.Blocks.{block_at}
use Rattle.shelves.specs.Tallies.{counted_all}
use Rattle.shelves.proofs.counts.count_blocks.Given as goal

abbrev pub invariant-loop-i : goal.invariant-loop-i
invariant-loop-i l = l.t ≡ counted_all l.initial.t (each l.i (block_at l.file))
