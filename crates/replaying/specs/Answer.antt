-- Document 01, 'Codes', Replay, and request 06: what a question about a schedule answers, over the bytes that it is handed. Assumes nothing.
use Rattle.std.specs.Prelude.{◌≡◌, ◌||◌, not, List, [], ◌∷◌, ◌++◌, ℕ, zero, suc, ◌%◌, eqb, ltb, length, replicate}
use Rattle.words.specs.Refusals.{Refusal, ◌when◌, first_code_of}
use Rattle.cases.specs.declared.Case.{Case}
use Rattle.cases.specs.Block.{refusals, case_of, read_of}
use Rattle.runs.specs.Replay.{Replay, replay}
use Rattle.rules.specs.State.{State, initial}
use Rattle.rules.specs.Step.{Step, steps_of, replay_place}
use Rattle.rules.specs.Result.{result_bytes}
use Rattle.rules.specs.Womm.{womm}
use Rattle.replaying.specs.declared.Replayed.{Replayed}

-- What is asked of the state that a schedule leads to: the size of the buffer for it, and the bytes that go there.
pub record Question : Type 0 where
  pub size : ℕ
  pub bytes : Case → State → List ℕ

-- A replay asks for the result.
abbrev pub result : Question
result = record { size = 104; bytes = result_bytes }

-- '8 schedule length not a multiple of 4 or over 384; 9 result buffer not 104 bytes', or not of the size wanted.
abbrev pub length_refusals : ℕ → ℕ → ℕ → List Refusal
length_refusals wanted schedule size = 8 when (not (eqb (schedule % 4) 0) || ltb 384 schedule) ∷ 9 when not (eqb size wanted) ∷ []

-- The codes of the block, then 8 and 9.
unfoldable pub replay_refusals : ℕ → List ℕ → List ℕ → ℕ → List Refusal
replay_refusals wanted block schedule size = refusals block ++ length_refusals wanted (length schedule) size

-- The code, the number of steps taken, the place of the instruction that the code names, and the bytes of the buffer.
pub record Answer : Type 0 where
  pub code : ℕ
  pub steps : ℕ
  pub place : ℕ
  pub bytes : List ℕ

-- 'With code 0 all steps were taken. With a step code the number of steps taken before it comes back': and the bytes are of the state then.
abbrev pub answer_of : Question → Case → List Step → Replay State → Answer
answer_of Q c ts r = record { code = r.code; steps = r.taken; place = replay_place c ts r; bytes = Q.bytes c r.state }

-- 'Refused so: zero steps, buffer all zeros'; request 06, '255 for all other answers'.
abbrev pub answer_from : Question → ℕ → Case → List Step → ℕ → Answer
answer_from Q zero c ts size = answer_of Q c ts (replay (womm c) (initial c) ts)
answer_from Q (suc n) c ts size = record { code = suc n; steps = 0; place = 255; bytes = replicate size 0 }

-- What the question answers of a schedule on a block, with a buffer of a size.
unfoldable pub asked : Question → List ℕ → List ℕ → ℕ → Answer
asked Q block schedule size = answer_from Q (first_code_of (replay_refusals Q.size block schedule size)) (case_of block) (steps_of schedule) size

-- What its replay answers.
abbrev pub replayed : List ℕ → List ℕ → ℕ → Answer
replayed = asked result

-- The answer r, and the bytes out of the buffer, are those; the position is the block's own.
pub record IsAnswer (Q : Question) (block schedule : List ℕ) (size : ℕ) (r : Replayed) (out : List ℕ) : Type 0 where
  pub code : r.code ≡ (asked Q block schedule size).code
  pub steps : r.steps ≡ (asked Q block schedule size).steps
  pub place : r.place ≡ (asked Q block schedule size).place
  pub bytes : out ≡ (asked Q block schedule size).bytes
  pub position : r.position ≡ (read_of block).position

abbrev pub IsReplay : List ℕ → List ℕ → ℕ → Replayed → List ℕ → Type 0
IsReplay = IsAnswer result
