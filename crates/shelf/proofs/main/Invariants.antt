use Rattle.std.proofs.Common.{◌≡◌, length}
use Rattle.shelf.proofs.main.Given as goal

-- Each turn reads a byte or more, so fewer are left.
abbrev pub invariant-loop-left : goal.invariant-loop-left
invariant-loop-left l = 65536 ≡ length l.piece

abbrev pub decreases-loop-left : goal.decreases-loop-left
decreases-loop-left l = l.left
