-- The buffers that a log of stores shows. Assumes nothing.
use Rattle.std.specs.Prelude.{◌≡◌, Bool, true, false, ◌&&◌, cond, List, [], ◌∷◌, ◌++◌, ℕ, zero, suc, ◌+◌, ◌*◌, ◌≤◌, ◌<◌, eqb, get_or}
use Rattle.std.specs.Prelude.{Option, Some, None}
use Rattle.words.specs.Small.{is}
use Rattle.words.specs.Sets.{has}
use Rattle.machine.specs.Shown.{Value}
use Rattle.boards.specs.declared.Buffering.{Buffering}
use Rattle.boards.specs.declared.Buffering.TheVariants.{Direct, Shared, Split}
use Rattle.boards.specs.Board.{slot, Store, filled}
use Rattle.stores.specs.declared.Logged.{Logged}

-- No store.
abbrev pub blank : Logged
blank = record { proc = 0; loc = 0; value = 0; waits = false }

-- It waits in buffer b of processor p.
abbrev pub sits_in : Buffering → ℕ → ℕ → Logged → Bool
sits_in k p b x = x.waits && (eqb x.proc p && is b (slot k x.loc))

abbrev pub store_of : Logged → Store
store_of x = record { loc = x.loc; value = x.value }

-- What g gives of those of 0, 1, .., n - 1 that pass the test.
unfoldable pub gathered : {A : Type 0} → (ℕ → Bool) → (ℕ → A) → ℕ → List A
gathered f g zero = []
gathered f g (suc n) = gathered f g n ++ cond (f n) (g n ∷ []) []

-- Buffer b of processor p: the stores of the first n of the log that wait there, the oldest first.
abbrev pub buffer_of : Buffering → List Logged → ℕ → ℕ → ℕ → List Store
buffer_of k log n p b = gathered (λ j. sits_in k p b (get_or log j blank)) (λ j. store_of (get_or log j blank)) n

-- The number of the buffer that a store to location l enters, 8 where it enters none.
abbrev pub buffer_by : Buffering → ℕ → ℕ
buffer_by Direct l = 8
buffer_by Shared l = 0
buffer_by Split l = l

-- The same, with nothing where it enters none.
abbrev pub slot_by : Buffering → ℕ → Option ℕ
slot_by Direct l = None
slot_by Shared l = Some 0
slot_by Split l = Some l

-- A value, or an older one.
abbrev pub newer_by : Bool → ℕ → Value → Value
newer_by there x old = cond there (Some x) old

-- w is the set of the buffers that hold a store of the first n of the log, buffer b of processor p as 8p + b.
pub record Waits (k : Buffering) (log : List Logged) (n w : ℕ) : Type 0 where
  pub holds : (p b : ℕ) → p < 4 → b < 8 → has w (8 * p + b) ≡ filled (buffer_of k log n p b)

-- Place r is the oldest store of buffer b of processor p, or the end of the log.
pub record Oldest (k : Buffering) (log : List Logged) (n p b r : ℕ) : Type 0 where
  pub most : r ≤ n
  pub found : r < n → sits_in k p b (get_or log r blank) ≡ true
  pub before : (j : ℕ) → j < r → sits_in k p b (get_or log j blank) ≡ false
