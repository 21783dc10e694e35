-- What the functions of a listing are given, and what they give back. Assumes nothing.
use Rattle.std.specs.Prelude.{◌≡◌, List, ℕ, ◌≤◌}
use Rattle.cases.specs.declared.Case.{Case}
use Rattle.runs.specs.Listing.{Refused, IsListing}
use Rattle.rules.specs.Womm.{womm}
use Rattle.machine.specs.Fit.{Fit}
use Rattle.listing.specs.declared.Answer.{Answer}
use Rattle.listing.specs.Outcomes.{answer_of}

-- A case, and a bound of steps that a search takes.
pub record Searching (c : Case) (n : ℕ) : Type 0 where
  pub fit : Fit c
  pub bound : n ≤ 96

-- The answer r lists the case, and its position is 0.
pub record Found (c : Case) (n size : ℕ) (r : Answer) (out : List ℕ) : Type 0 where
  pub listed : IsListing (womm c) n size (answer_of r) out
  pub position : r.position ≡ 0

-- The answer r refuses with this code and this position.
pub record RefusedAt (code at size : ℕ) (r : Answer) (out : List ℕ) : Type 0 where
  pub refused : Refused code size (answer_of r) out
  pub position : r.position ≡ at
