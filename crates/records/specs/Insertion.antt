-- A record that goes in at its place. Assumes nothing.
use Rattle.std.specs.Prelude.{◌≡◌, ◌↔◌, Bool, true, false, List, ℕ, ◌+◌, ◌/◌, ◌≤◌, ◌<◌, length}
use Rattle.runs.specs.Listing.{below}
use Rattle.records.specs.Buffer.{record_at, Among, Held}
use Rattle.records.specs.Growth.{Grown}

-- The place of r among n records: those before it are below r, the others are not.
pub record Place (bytes : List ℕ) (n : ℕ) (r : List ℕ) (at : ℕ) : Type 0 where
  pub within : at ≤ n
  pub under : (k : ℕ) → k < at → below (record_at bytes k) r ≡ true
  pub over : (k : ℕ) → at ≤ k → k < n → below (record_at bytes k) r ≡ false

-- r is added. Full exactly if it is new and there is no room: then nothing has changed.
pub record Insertion (r before : List ℕ) (n : ℕ) (after : List ℕ) (m : ℕ) (full : Bool) : Type 0 where
  pub grown : Grown (λ x. x ≡ r) before n after m full
  pub refused : (full ≡ true) ↔ ((Among before n r → ⊥) × (length before / 96 ≤ n))
  pub kept : full ≡ true → (after ≡ before) × (m ≡ n)

-- n records in a buffer, and a record.
pub record Finding (bytes : List ℕ) (n : ℕ) (r : List ℕ) : Type 0 where
  pub held : Held bytes n
  pub long : length r ≡ 96

-- The same, and the record's place.
pub record Standing (bytes : List ℕ) (n : ℕ) (r : List ℕ) (at : ℕ) : Type 0 where
  pub held : Held bytes n
  pub long : length r ≡ 96
  pub place : Place bytes n r at

-- Room for a record after the bytes that are used.
pub record Shifting (tail : List ℕ) (used : ℕ) (r : List ℕ) : Type 0 where
  pub room : used + 96 ≤ length tail
  pub long : length r ≡ 96
