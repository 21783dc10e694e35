-- What a list of outcomes says, whatever counts as an outcome and as cut. Assumes nothing.
use Rattle.std.specs.Prelude.{◌≡◌, Bool, true, false, ◌&&◌, ◌||◌, ◌↔◌, ℕ, ◌≤◌, ◌<◌, ◌*◌, ◌-◌, ◌/◌, eqb, ltb, length, replicate}
use mathlib.Core.List.{List, [], ◌∷◌, ◌++◌, Memᴰ}
use Rattle.words.specs.Small.{all, concat_map}
use Rattle.runs.specs.Model.{Model}
use Rattle.runs.specs.Outcome.{Outcome, Cut}

-- Byte order.
abbrev pub below : List ℕ → List ℕ → Bool
below [] [] = false
below [] (y ∷ ys) = true
below (x ∷ xs) [] = false
below (x ∷ xs) (y ∷ ys) = ltb x y || (eqb x y && below xs ys)

-- Each record is below all that follow it.
abbrev pub ascending : List (List ℕ) → Bool
ascending [] = true
ascending (r ∷ rs) = all (below r) rs && ascending rs

-- The records of O: ascending, so each once, all that O holds of and nothing besides.
pub record RecordsOf (O : List ℕ → Type 0) (rs : List (List ℕ)) : Type 0 where
  pub sorted : ascending rs ≡ true
  pub members : (r : List ℕ) → Memᴰ r rs ↔ O r

-- A listing's answer: the code, the count and the cut mark.
pub record Listed : Type 0 where
  pub code : ℕ
  pub count : ℕ
  pub cut : Bool

-- Accepted: code 0, the count, cut exactly if C; the records from the start, all other bytes 0.
pub record AcceptedOf (C : Type 0) (size : ℕ) (rs : List (List ℕ)) (a : Listed) (out : List ℕ) : Type 0 where
  pub code : a.code ≡ 0
  pub count : a.count ≡ length rs
  pub cut : (a.cut ≡ true) ↔ C
  pub bytes : out ≡ concat_map (λ r. r) rs ++ replicate (size - 96 * length rs) 0

-- Refused: count 0, cut no, all bytes 0.
pub record Refused (why size : ℕ) (a : Listed) (out : List ℕ) : Type 0 where
  pub code : a.code ≡ why
  pub count : a.count ≡ 0
  pub cut : a.cut ≡ false
  pub bytes : out ≡ replicate size 0

-- The answer a and the bytes out of a buffer of this size: 11 exactly if there are more records than its length ÷ 96.
pub record IsListOf (O : List ℕ → Type 0) (C : Type 0) (size : ℕ) (a : Listed) (out : List ℕ) : Type 0 where
  pub records : List (List ℕ)
  pub right : RecordsOf O records
  pub fits : length records ≤ size / 96 → AcceptedOf C size records a out
  pub full : size / 96 < length records → Refused 11 size a out

-- The list of a model's outcomes within n steps.
abbrev pub IsListing : Model → ℕ → ℕ → Listed → List ℕ → Type 0
IsListing m n = IsListOf (Outcome m n) (Cut m n)
