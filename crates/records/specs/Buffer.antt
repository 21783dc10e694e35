-- A lent slice as a buffer of records of 96 bytes. Assumes nothing.
use Rattle.std.specs.Prelude.{◌≡◌, true, ℕ, zero, suc, ◌*◌, ◌-◌, ◌≤◌, length, take, drop, replicate}
use mathlib.Core.List.{List, [], ◌∷◌, Memᴰ}
use Rattle.runs.specs.Listing.{ascending}

-- The record at place k.
abbrev pub record_at : List ℕ → ℕ → List ℕ
record_at bytes k = take 96 (drop (96 * k) bytes)

-- The first n records.
unfoldable pub records_in : ℕ → List ℕ → List (List ℕ)
records_in zero bytes = []
records_in (suc n) bytes = take 96 bytes ∷ records_in n (drop 96 bytes)

-- r is among the first n records.
abbrev pub Among : List ℕ → ℕ → List ℕ → Type 0
Among bytes n r = Memᴰ r (records_in n bytes)

-- The buffer holds n records: ascending, from the start, and zeros after them.
pub record Held (bytes : List ℕ) (n : ℕ) : Type 0 where
  pub room : 96 * n ≤ length bytes
  pub sorted : ascending (records_in n bytes) ≡ true
  pub rest : drop (96 * n) bytes ≡ replicate (length bytes - 96 * n) 0
