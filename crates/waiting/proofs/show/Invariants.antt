use mathlib.Core.Path.{◌≡◌}
use Prim.Native.Nat.{ℕ, ◌≤◌, ◌<◌}
use lib.ListN.{length, get_or}
use Rattle.machine.specs.Shown.{shown}
use Rattle.progress.specs.Causes.{reasons}
use Rattle.waiting.proofs.show.Given as goal

abbrev pub invariant-loop-p : goal.invariant-loop-p
invariant-loop-p l = (l.p ≤ 4) × (length l.causes ≡ 4) × ((j : ℕ) → j < l.p → get_or l.causes j 0 ≡ get_or (reasons l.case (shown l.case l.m)) j 0)
