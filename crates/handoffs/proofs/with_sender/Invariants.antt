use Rattle.std.proofs.Common.{◌≡◌}
use Rattle.handoffs.proofs.Turns.{sent_to}
use Rattle.handoffs.proofs.with_sender.Given as goal

abbrev pub invariant-loop-i : goal.invariant-loop-i
invariant-loop-i l = l.code ≡ sent_to l.p l.i
