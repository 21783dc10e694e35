use Prim.Native.Nat.{◌*◌, ◌≤◌}
use lib.ListN.{length}
use Rattle.machine.specs.Valid.{Valid}
use Rattle.replaying.proofs.Walking.{Reached}
use Rattle.replaying.proofs.walk.Given as goal

abbrev pub invariant-loop-steps : goal.invariant-loop-steps
invariant-loop-steps l =
    (4 * l.steps ≤ length l.schedule)
    × Valid l.case l.m
    × Reached l.schedule l.case l.steps l.m
