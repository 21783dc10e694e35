-- What listing the outcomes of a block on a store-buffer machine answers. Assumes nothing.
use Rattle.std.specs.Prelude.{◌≡◌, List, [], ◌∷◌, ℕ, zero, suc, ◌<◌, ltb}
use Rattle.words.specs.Refusals.{Refusal, ◌when◌, first_code_of}
use Rattle.cases.specs.Block.{read_of}
use Rattle.runs.specs.Listing.{Listed, Refused}
use Rattle.boards.specs.declared.Buffering.{Buffering}
use Rattle.boards.specs.declared.Buffering.TheVariants.{Direct, Shared, Split}
use Rattle.boards.specs.Listing.{IsBoardList}
use Rattle.boardlisting.specs.declared.Answer.{Answer}

-- The store-buffer machine of a kind: 0 SC, 1 TSO, any other PSO.
abbrev pub machine_of : ℕ → Buffering
machine_of zero = Direct
machine_of (suc zero) = Shared
machine_of (suc (suc n)) = Split

-- The code, the count and the cut mark of an answer.
abbrev pub answer_of : Answer → Listed
answer_of a = record { code = a.code; count = a.count; cut = a.cut }

-- The code that reading the block gives, and 10: 'Refusals: 10 for A over 48, 11 as before, in the same places.'
unfoldable pub board_refusals : List ℕ → ℕ → List Refusal
board_refusals block bound = (read_of block).code when ltb 0 (read_of block).code ∷ 10 when ltb 48 bound ∷ []

-- The answer a, the block's position at, and the bytes out of a buffer of this size: the list of the block's case on machine k, or all zeros
-- with the first code that applies.
pub record IsBoardOutcomes (k : Buffering) (block : List ℕ) (bound size : ℕ) (a : Listed) (at : ℕ) (out : List ℕ) : Type 0 where
  pub sound : first_code_of (board_refusals block bound) ≡ 0 → IsBoardList k (read_of block).case bound size a out
  pub unsound : 0 < first_code_of (board_refusals block bound) → Refused (first_code_of (board_refusals block bound)) size a out
  pub position : at ≡ (read_of block).position
