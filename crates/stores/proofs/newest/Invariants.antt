use mathlib.Core.Path.{◌≡◌}
use Rattle.machine.specs.Shown.{shown_value}
use Rattle.boards.specs.Board.{newest_to}
use Rattle.stores.specs.Log.{buffer_of}
use Rattle.stores.proofs.newest.Given as goal

abbrev pub invariant-loop-x : goal.invariant-loop-x
invariant-loop-x l = shown_value l.v ≡ newest_to l.l (buffer_of l.k l.log l.x-index l.p l.b)
