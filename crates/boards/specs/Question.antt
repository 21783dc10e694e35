-- What a search asks of a board. Assumes nothing.
use Rattle.std.specs.Prelude.{List, ℕ}
use Rattle.cases.specs.declared.Case.{Case}
use Rattle.boards.specs.declared.Buffering.{Buffering}
use Rattle.boards.specs.Board.{Board}
use Rattle.boards.specs.Listing.{OutcomeFrom, CutFrom}

pub data Question : Type 0 where
  -- is r an outcome?
  outcome : List ℕ → Question
  -- is a run cut?
  cut : Question

-- The answer is yes: from board b with n instructions to go.
abbrev pub Yes : Buffering → Case → Board → ℕ → Question → Type 0
Yes k c b n (outcome r) = OutcomeFrom k c b n r
Yes k c b n cut = CutFrom k c b n
