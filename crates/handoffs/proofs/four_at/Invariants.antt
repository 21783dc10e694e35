use Rattle.std.proofs.Common.{◌≡◌}
use Rattle.handoffs.proofs.Turns.{fine_to}
use Rattle.handoffs.proofs.four_at.Given as goal

abbrev pub invariant-loop-i : goal.invariant-loop-i
invariant-loop-i l = l.fine ≡ fine_to l.p l.i
