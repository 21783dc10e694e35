use Rattle.stores.specs.Log.{Waits}
use Rattle.stores.proofs.waiting.Given as goal

abbrev pub invariant-loop-x : goal.invariant-loop-x
invariant-loop-x l = Waits l.k l.log l.x-index l.found
