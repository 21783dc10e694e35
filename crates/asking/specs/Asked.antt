-- What asking about a block answers, over the bytes and clauses that are handed over and the rules alone. Assumes nothing.
use Rattle.std.specs.Prelude.{◌≡◌, Bool, ◌||◌, not, List, [], ◌∷◌, ◌++◌, ℕ, ◌<◌, eqb, ltb, leb, length}
use Rattle.words.specs.Small.{any}
use Rattle.words.specs.Refusals.{Refusal, ◌when◌, first_code_of}
use Rattle.cases.specs.Block.{refusals, case_of, read_of}
use Rattle.clauses.specs.declared.Clause.{Clause}
use Rattle.clauses.specs.Wanted.{meets_all}
use Rattle.runs.specs.Asking.{Answered, IsAnswer, Refused}
use Rattle.rules.specs.Bytes.{step_bytes}
use Rattle.rules.specs.Womm.{womm}
use Rattle.asking.specs.declared.Answer.{Answer}

-- The code, the mark, the length and the cut mark of an answer.
abbrev pub answer_of : Answer → Answered
answer_of a = record { code = a.code; yes = a.yes; length = a.length; cut = a.cut }

-- 'An absent processor or a register over 7.'
abbrev pub bad_clause : ℕ → Clause → Bool
bad_clause procs k = leb procs k.processor || ltb 7 k.register

-- 'Over 8 clauses', or one of them is bad, where there are `procs` processors.
unfoldable pub bad_clauses : ℕ → List Clause → Bool
bad_clauses procs ks = ltb 8 (length ks) || any (bad_clause procs) ks

-- The block's codes, then 10, 12 and, 'for a buffer of another length', 13.
unfoldable pub ask_refusals : List ℕ → ℕ → List Clause → ℕ → List Refusal
ask_refusals block bound ks size = refusals block ++ (10 when ltb 96 bound ∷ 12 when bad_clauses (case_of block).procs ks ∷ 13 when not (eqb size 384) ∷ [])

-- The answer a, the position at, and the bytes out of a buffer of this size: that of the block's case, or all zeros with the first code that
-- applies; the position that a block's code carries, 0 with any other answer.
pub record IsAsked (block : List ℕ) (bound : ℕ) (ks : List Clause) (size : ℕ) (a : Answered) (at : ℕ) (out : List ℕ) : Type 0 where
  pub sound : first_code_of (ask_refusals block bound ks size) ≡ 0 → IsAnswer (womm (case_of block)) (meets_all ks) step_bytes bound size a out
  pub unsound : 0 < first_code_of (ask_refusals block bound ks size) → Refused (first_code_of (ask_refusals block bound ks size)) size a out
  pub position : at ≡ (read_of block).position
