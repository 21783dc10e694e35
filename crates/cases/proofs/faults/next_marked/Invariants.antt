use Rattle.cases.specs.Block.{marked}
use Rattle.cases.specs.Given.{Skipped}
use Rattle.cases.proofs.faults.next_marked.Given as goal

-- The bytes passed so far are zero.
abbrev pub invariant-loop-i : goal.invariant-loop-i
invariant-loop-i l = Skipped (marked l.block) l.from l.i
