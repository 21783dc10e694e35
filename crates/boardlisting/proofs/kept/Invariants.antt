use mathlib.Core.Path.{◌≡◌}
use mathlib.Core.Bool.{true}
use Prim.Native.Nat.{ℕ}
use Rattle.words.specs.Sets.{has}
use Rattle.boards.specs.Apart.{apart}
use Rattle.running.specs.Shown.{shown}
use Rattle.boardlisting.specs.Moves.{move_at}
use Rattle.boardlisting.proofs.kept.Given as goal

abbrev pub invariant-loop-j : goal.invariant-loop-j
invariant-loop-j l = ((x : ℕ) → has l.left x ≡ true → (has l.done x ≡ true) × (apart l.k l.case (shown l.k l.case l.s) (move_at l.i) (move_at x) ≡ true))
