use Rattle.cases.proofs.Lowest.{Passed}
use Rattle.cases.proofs.faults.judge.Given as goal

-- The codes passed so far have no bad position (`Passed`).
abbrev pub invariant-loop-code : goal.invariant-loop-code
invariant-loop-code l = Passed l.block l.code-index
