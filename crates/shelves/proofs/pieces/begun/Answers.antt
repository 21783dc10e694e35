use mathlib.Core.Path.{refl}
use Rattle.shelves.specs.Blocks.{blocks_of, left_over}
use Rattle.shelves.specs.Counts.{count}
use Rattle.shelves.specs.Tallies.{tally_of}
use Rattle.shelves.proofs.pieces.begun.Goals as goal

pub returns : goal.returns
unfolding blocks_of left_over tally_of count
returns c = record { counts = refl; over = refl; rest = refl }
