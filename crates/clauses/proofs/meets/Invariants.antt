-- The clauses passed hold. Assumes nothing.
use Rattle.std.proofs.Common.{◌≡◌, true, take}
use Rattle.clauses.specs.Wanted.{meets_all}
use Rattle.clauses.proofs.meets.Given as goal

abbrev pub invariant-loop-c : goal.invariant-loop-c
invariant-loop-c l = true ≡ meets_all (take l.c-index l.clauses) l.outcome
