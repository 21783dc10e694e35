-- Request 07, 'Store-buffer machines': what one is made of, and its start. Assumes nothing.
use Rattle.std.specs.Prelude.{Bool, true, false, cond, List, [], ◌∷◌, ℕ, eqb}
use Rattle.std.proofs.Math.Option.{Option, none, some}
use Rattle.cases.specs.declared.Case.{Case}
use Rattle.cases.specs.Case.{preset_of, word_of}
use Rattle.boards.specs.declared.Buffering.{Buffering}
use Rattle.boards.specs.declared.Buffering.TheVariants.{Direct, Shared, Split}

-- 'Stores reach memory at once; one first-in first-out buffer a processor; one a processor and location': the number of the buffer, of its
-- processor's, that a store to location l enters; none: it reaches memory at once.
abbrev pub slot : Buffering → ℕ → Option ℕ
slot Direct l = none
slot Shared l = some 0
slot Split l = some l

pub record Store : Type 0 where
  pub loc : ℕ
  pub value : ℕ

pub record Board : Type 0 where
  -- the place counter of each processor
  pub places : ℕ → ℕ
  -- by processor and register; none is undefined
  pub values : ℕ → ℕ → Option ℕ
  -- the processor that holds each location
  pub holders : ℕ → Option ℕ
  pub memory : ℕ → ℕ
  -- by processor and number of the buffer, a number below M; the oldest store first
  pub buffers : ℕ → ℕ → List Store

abbrev pub opening : Case → Board
opening c =
    record {
      places = λ p. 0;
      values = λ p k. preset_of c p k;
      holders = λ l. none;
      memory = λ l. word_of c l;
      buffers = λ p b. [];
    }

-- A store waits in it.
abbrev pub filled : {A : Type 0} → List A → Bool
filled [] = false
filled (x ∷ xs) = true

-- The first value that there is.
abbrev pub newer : Option ℕ → Option ℕ → Option ℕ
newer (some v) o = some v
newer none o = o

-- The value, or d where there is none.
abbrev pub or_else : Option ℕ → ℕ → ℕ
or_else (some v) d = v
or_else none d = d

-- The value of the newest of the stores to location l.
unfoldable pub newest_to : ℕ → List Store → Option ℕ
newest_to l [] = none
newest_to l (x ∷ xs) = newer (newest_to l xs) (cond (eqb x.loc l) (some x.value) none)

-- That of processor p's buffered stores to l, where they enter the buffer of this number.
abbrev pub pending : Board → ℕ → ℕ → Option ℕ → Option ℕ
pending s p l none = none
pending s p l (some b) = newest_to l (s.buffers p b)

-- 'A read takes its processor's newest buffered store to that location, else memory.'
abbrev pub seen : Buffering → Board → ℕ → ℕ → ℕ
seen k s p l = or_else (pending s p l (slot k l)) (s.memory l)
