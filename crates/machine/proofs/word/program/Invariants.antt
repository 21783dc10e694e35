use mathlib.Core.Path.{◌≡◌}
use lib.ListN.{length}
use Rattle.machine.proofs.Programs.{Coded}
use Rattle.machine.proofs.word.program.Given as goal

abbrev pub invariant-loop-n : goal.invariant-loop-n
invariant-loop-n l = (length l.out ≡ 48) × Coded l.case l.out l.n
