-- The clauses before this one are gathered. Assumes nothing.
use Rattle.std.proofs.Common.{◌≡◌, take}
use Rattle.clauses.specs.Wanted.{no_clauses, with_all}
use Rattle.womm.proofs.womm_ask.Given as goal

abbrev pub invariant-loop-clause : goal.invariant-loop-clause
invariant-loop-clause l = l.asked ≡ with_all no_clauses (take l.clause-index l.clauses)
