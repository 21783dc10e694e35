-- The list of a case's outcomes: there is an answer, there is one only, and unmarked it is that of every larger bound. Assumes nothing.
use Rattle.std.proofs.Common.{◌≡◌, ℕ, ◌≤◌, false, List}
use Rattle.cases.specs.declared.Case.{Case}
use Rattle.runs.specs.Listing.{Listed, IsListing}
use Rattle.runs.proofs.Unique as Unique
use Rattle.runs.proofs.Stable as Stable
use Rattle.runs.proofs.Exists as Exists
use Rattle.rules.specs.Womm.{womm}
use Rattle.rules.proofs.Accepted.{finished_still}
use Rattle.rules.proofs.Candidates.{candidates, covers}

module _ (c : Case) where
  pub still : Stable.Still (womm c)
  still s t f h = finished_still c s f t h

  pub listing_exists : (n size : ℕ) → (a : Listed) × (out : List ℕ) × IsListing (womm c) n size a out
  listing_exists = Exists.listing_exists (womm c) (candidates c) (covers c)

  pub listing_unique : (n size : ℕ) (a b : Listed) (out buf : List ℕ) → IsListing (womm c) n size a out → IsListing (womm c) n size b buf → (a ≡ b) × (out ≡ buf)
  listing_unique = Unique.listing_unique (womm c)

  pub listing_same : (n k size : ℕ) (a : Listed) (out : List ℕ) → n ≤ k → a.code ≡ 0 → a.cut ≡ false → IsListing (womm c) n size a out → IsListing (womm c) k size a out
  listing_same = Stable.listing_same (womm c) still

  -- so any answer for a larger bound is this one
  pub listing_kept : (n k size : ℕ) (a : Listed) (out : List ℕ) → n ≤ k → a.code ≡ 0 → a.cut ≡ false → IsListing (womm c) n size a out → (b : Listed) (buf : List ℕ) → IsListing (womm c) k size b buf → (a ≡ b) × (out ≡ buf)
  listing_kept = Stable.listing_kept (womm c) still
