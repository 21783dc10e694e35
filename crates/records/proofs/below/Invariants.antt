use Rattle.std.proofs.Common.{◌≡◌, length}
use Rattle.runs.specs.Listing.{below}
use Rattle.records.proofs.Order.{Bytes}
use Rattle.records.proofs.below.Given as goal

-- What is left of both is ordered as they are.
abbrev pub invariant-loop-x : goal.invariant-loop-x
invariant-loop-x l = (length l.left ≡ length l.right) × (below l.left l.right ≡ below l.a l.b) × Bytes l.left × Bytes l.right

abbrev pub decreases-loop-x : goal.decreases-loop-x
decreases-loop-x l = length l.left
