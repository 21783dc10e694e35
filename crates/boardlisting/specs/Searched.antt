-- What a search from a board makes of a buffer and a tally. Assumes nothing.
use Rattle.std.specs.Prelude.{◌≡◌, ◌⊎◌, ◌↔◌, Bool, true, false, List, ℕ}
use Rattle.cases.specs.declared.Case.{Case}
use Rattle.records.specs.Buffer.{Among}
use Rattle.records.specs.Growth.{Filled, Joined}
use Rattle.boards.specs.declared.Buffering.{Buffering}
use Rattle.boards.specs.Board.{Board}
use Rattle.boards.specs.Listing.{OutcomeFrom}
use Rattle.boards.specs.Question.{Question, outcome, cut, Yes}
use Rattle.boardlisting.specs.declared.Tally.{Tally}

-- What a buffer of n records and a cut mark x tell.
abbrev pub Holds : List ℕ → ℕ → Bool → Question → Type 0
Holds bytes n x (outcome r) = Among bytes n r
Holds bytes n x cut = x ≡ true

abbrev pub Tells : List ℕ → Tally → Question → Type 0
Tells bytes y = Holds bytes y.count y.cut

-- From b with n instructions to go: what is added are outcomes, and unless there was no room all is told and nothing besides.
pub record Searched (k : Buffering) (c : Case) (b : Board) (n : ℕ) (before : List ℕ) (y : Tally) (after : List ℕ) (z : Tally) : Type 0 where
  pub filled : Filled (Joined before y.count (OutcomeFrom k c b n)) before after z.count z.full
  pub told : z.full ≡ false → (q : Question) → Tells after z q ↔ (Tells before y q ⊎ Yes k c b n q)
