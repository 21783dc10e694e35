-- What additions make of a buffer, whatever is added. Assumes nothing.
use Rattle.std.specs.Prelude.{◌≡◌, ◌⊎◌, ◌↔◌, Bool, true, false, ℕ, ◌/◌, ◌<◌, length}
use mathlib.Core.List.{List, Memᴰ}
use Rattle.runs.specs.Listing.{ascending}
use Rattle.records.specs.Buffer.{Among, Held}

-- More than m different records pass P.
pub record MoreThan (m : ℕ) (P : List ℕ → Type 0) : Type 0 where
  pub some : List (List ℕ)
  pub sorted : ascending some ≡ true
  pub pass : (r : List ℕ) → Memᴰ r some → P r
  pub many : m < length some

-- The buffer keeps its size and holds m records afterwards; or it is full, as more records pass P than fit.
pub record Filled (P : List ℕ → Type 0) (before after : List ℕ) (m : ℕ) (full : Bool) : Type 0 where
  pub size : length after ≡ length before
  pub held : full ≡ false → Held after m
  pub lacks : full ≡ true → MoreThan (length before / 96) P

-- What was held before, or passes P.
abbrev pub Joined : List ℕ → ℕ → (List ℕ → Type 0) → List ℕ → Type 0
Joined before n P r = Among before n r ⊎ P r

-- Of n records before there are m after: all those of P are added and nothing besides, unless these are more than fit.
pub record Grown (P : List ℕ → Type 0) (before : List ℕ) (n : ℕ) (after : List ℕ) (m : ℕ) (full : Bool) : Type 0 where
  pub filled : Filled (Joined before n P) before after m full
  pub members : full ≡ false → (r : List ℕ) → Among after m r ↔ Joined before n P r
