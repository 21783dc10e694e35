use mathlib.Core.Path.{◌≡◌}
use Rattle.words.specs.Small.{each}
use Rattle.shelves.specs.Counts.{op_at}
use Rattle.shelves.specs.Tallies.{raised_all}
use Rattle.shelves.proofs.counts.raise_ops.Given as goal

-- The ops of the slots passed are raised. Assumes nothing.
abbrev pub invariant-loop-n : goal.invariant-loop-n
invariant-loop-n l = l.ops ≡ raised_all l.initial.ops (each l.n (op_at l.block))
