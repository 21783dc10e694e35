-- What asking a model for a wanted outcome answers. Assumes nothing.
use Rattle.std.specs.Prelude.{◌≡◌, Bool, true, false, List, ◌++◌, ◌↔◌, ℕ, ◌-◌, length, replicate}
use Rattle.words.specs.Small.{concat_map}
use Rattle.runs.specs.Model.{Model}
use Rattle.runs.specs.Outcome.{Cut}
use Rattle.runs.specs.Wanted.{Wish, Wanted, LowestFrom}

-- An answer: the code, yes or no, the schedule's length in bytes, and the cut mark.
pub record Answered : Type 0 where
  pub code : ℕ
  pub yes : Bool
  pub length : ℕ
  pub cut : Bool

-- Within n steps, the wish W, a step's bytes and a buffer of this size.
module _ (m : Model) (W : Wish) (bytes : m.Step → List ℕ) (n size : ℕ) where
  -- The lowest schedule, `long` bytes of it, and zeros after it.
  pub record Laid (long : ℕ) (out : List ℕ) : Type 0 where
    pub schedule : List m.Step
    pub lowest : LowestFrom m W bytes m.initial n schedule
    pub whole : long ≡ length (concat_map bytes schedule)
    pub filled : out ≡ concat_map bytes schedule ++ replicate (size - long) 0

  -- 'With yes comes the schedule lowest in byte order among those that reach one, .. padded with zeros, its length, and cut no.'
  pub record Found (a : Answered) (out : List ℕ) : Type 0 where
    pub laid : Laid a.length out
    pub cut : a.cut ≡ false

  -- 'With no comes the list's own cut mark, length 0 and a zero buffer.'
  pub record Missing (a : Answered) (out : List ℕ) : Type 0 where
    pub long : a.length ≡ 0
    pub cut : (a.cut ≡ true) ↔ Cut m n
    pub zeros : out ≡ replicate size 0

  -- 'Yes exactly if the full list, with room enough, holds such an outcome.'
  pub record IsAnswer (a : Answered) (out : List ℕ) : Type 0 where
    pub code : a.code ≡ 0
    pub yes : (a.yes ≡ true) ↔ Wanted m W n
    pub found : a.yes ≡ true → Found a out
    pub missing : a.yes ≡ false → Missing a out

-- 'Refused: no, length 0, cut no, all zeros.'
pub record Refused (why size : ℕ) (a : Answered) (out : List ℕ) : Type 0 where
  pub code : a.code ≡ why
  pub yes : a.yes ≡ false
  pub long : a.length ≡ 0
  pub cut : a.cut ≡ false
  pub zeros : out ≡ replicate size 0
