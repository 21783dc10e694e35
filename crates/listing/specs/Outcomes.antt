-- What listing the outcomes of a block answers, over the bytes that are handed over and the rules alone. Assumes nothing.
use Rattle.std.specs.Prelude.{◌≡◌, List, [], ◌∷◌, ◌++◌, ℕ, ◌<◌, ltb}
use Rattle.words.specs.Refusals.{Refusal, ◌when◌, first_code_of}
use Rattle.cases.specs.Block.{refusals, case_of, read_of}
use Rattle.runs.specs.Listing.{Listed, Refused, IsListing}
use Rattle.rules.specs.Womm.{womm}
use Rattle.listing.specs.declared.Answer.{Answer}

-- The code, the count and the cut mark of an answer.
abbrev pub answer_of : Answer → Listed
answer_of a = record { code = a.code; count = a.count; cut = a.cut }

-- The codes of the block, and 10.
unfoldable pub list_refusals : List ℕ → ℕ → List Refusal
list_refusals block bound = refusals block ++ (10 when ltb 96 bound ∷ [])

-- The answer a, the block's position at, and the bytes out of a buffer of this size: the list of the block's case, or all zeros with the first code that applies.
pub record IsOutcomes (block : List ℕ) (bound size : ℕ) (a : Listed) (at : ℕ) (out : List ℕ) : Type 0 where
  pub sound : first_code_of (list_refusals block bound) ≡ 0 → IsListing (womm (case_of block)) bound size a out
  pub unsound : 0 < first_code_of (list_refusals block bound) → Refused (first_code_of (list_refusals block bound)) size a out
  pub position : at ≡ (read_of block).position
