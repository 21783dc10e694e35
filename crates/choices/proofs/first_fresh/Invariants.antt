use Rattle.choices.proofs.Fresh.{Remains}
use Rattle.choices.proofs.first_fresh.Given as goal

abbrev pub invariant-loop-rest : goal.invariant-loop-rest
invariant-loop-rest l = Remains l.word l.spent l.j l.rest

abbrev pub decreases-loop-rest : goal.decreases-loop-rest
decreases-loop-rest l = l.rest
