use mathlib.Core.Path.{◌≡◌}
use mathlib.Core.Bool.{false}
use lib.ListN.{take}
use Rattle.words.specs.Small.{any}
use Rattle.asking.specs.Asked.{bad_clause}
use Rattle.asking.proofs.unaskable.Given as goal

-- None so far. Assumes nothing.
abbrev pub invariant-loop-k : goal.invariant-loop-k
invariant-loop-k l = any (bad_clause l.procs) (take l.k-index l.k-items) ≡ false
