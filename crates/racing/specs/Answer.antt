-- Request 10: the first race of a schedule, over the bytes that are handed over. Assumes nothing.
use Rattle.std.specs.Prelude.{◌≡◌, Bool, not, List, [], ◌∷◌, ℕ, zero, suc, eqb}
use Rattle.words.specs.Small.{some_below}
use Rattle.words.specs.Refusals.{◌when◌, first_code_of}
use Rattle.cases.specs.Block.{case_of, read_of}
use Rattle.runs.specs.Replay.{replay}
use Rattle.rules.specs.State.{State, initial, waiting}
use Rattle.rules.specs.Step.{Step, steps_of}
use Rattle.rules.specs.Womm.{womm}
use Rattle.races.specs.Race.{FirstRace}
use Rattle.replaying.specs.Answer.{Question, Answer, asked}
use Rattle.racing.specs.declared.Raced.{Raced}

-- The replay alone, with no buffer.
abbrev pub alone : Question
alone = record { size = 0; bytes = λ c s. [] }

-- 'A queue is not empty': an issued action waits in that of its processor.
unfoldable pub queued : State → Bool
queued s = some_below s.count (λ k. waiting (s.actions k).proc (s.actions k))

-- 'With none, or refused, both numbers are 255': j and k with this code.
abbrev pub PairOf : ℕ → List Step → State → ℕ → ℕ → Type 0
PairOf zero ts s j k = FirstRace ts s j k
PairOf (suc n) ts s j k = (j ≡ 255) × (k ≡ 255)

module _ (block schedule : List ℕ) where
  -- What its replay answers: 'step codes' with the steps taken and the place.
  abbrev pub taken : Answer
  taken = asked alone block schedule 0

  -- The state that the schedule leads to.
  abbrev pub reached : State
  reached = (replay (womm (case_of block)) (initial (case_of block)) (steps_of schedule)).state

  -- 'Refusals: 1 to 7, 19, 8, step codes, then 14 if a queue is not empty.'
  abbrev pub race_code : ℕ
  race_code = first_code_of (taken.code when not (eqb taken.code 0) ∷ 14 when queued reached ∷ [])

  -- The code r, the actions j and k of the race, n steps taken, the place i that the code names, the block's position at.
  pub record RacedAs (r j k n i at : ℕ) : Type 0 where
    pub code : r ≡ race_code
    pub pair : PairOf r (steps_of schedule) reached j k
    pub steps : n ≡ taken.steps
    pub place : i ≡ taken.place
    pub position : at ≡ (read_of block).position

-- The answer r is that.
abbrev pub IsRace : List ℕ → List ℕ → Raced → Type 0
IsRace block schedule r = RacedAs block schedule r.code r.first r.second r.steps r.place r.position
