use Rattle.std.proofs.Common.{◌≡◌, ◌+◌, ◌≤◌}
use Rattle.handoffs.proofs.Turns.{register_at, received_to}
use Rattle.handoffs.proofs.with_receiver.Given as goal

abbrev pub invariant-loop-i : goal.invariant-loop-i
invariant-loop-i l = (l.k ≡ register_at l.p l.i) × (l.k ≤ 5 + l.i) × (l.code ≡ received_to l.fn.start l.p l.i)
