use Rattle.std.proofs.Common.{◌≡◌, ◌+◌, ◌≤◌}
use Rattle.handoffs.specs.Inner.{ready_at}
use Rattle.handoffs.proofs.Turns.{register_at, ready_from}
use Rattle.handoffs.proofs.ready_at.Given as goal

abbrev pub invariant-loop-i : goal.invariant-loop-i
invariant-loop-i l = (l.k ≡ register_at l.p l.i) × (l.k ≤ 5 + l.i) × (ready_at l.p ≡ ready_from l.p l.i)
