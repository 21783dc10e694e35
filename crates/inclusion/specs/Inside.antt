-- Request 07: 'each outcome stands in the WOMM list, with room enough, for 2 × A'. Assumes nothing.
use Rattle.std.specs.Prelude.{List, ℕ, ◌*◌}
use Rattle.cases.specs.declared.Case.{Case}
use Rattle.runs.specs.Outcome as Runs
use Rattle.rules.specs.Womm.{womm}
use Rattle.boards.specs.declared.Buffering.{Buffering}
use Rattle.boards.specs.Listing.{Outcome}

-- An outcome of the machine with this kind of buffer within n instructions is one of WOMM within twice as many steps.
abbrev pub Inside : Buffering → Case → ℕ → Type 0
Inside k c n = (r : List ℕ) → Outcome k c n r → Runs.Outcome (womm c) (2 * n) r
