-- Every bound and buffer has an answer. Assumes nothing; the steps tried cover the model.
use mathlib.Core.Path.{◌≡◌, refl}
use mathlib.Core.Logic.{⊎_elim, ◌↔◌}
use mathlib.Core.Bool.{Bool, true, false}
use mathlib.Core.List.{List, ◌++◌, Memᴰ}
use Prim.Native.Nat.{ℕ, ◌*◌, ◌-◌, ◌/◌}
use native.Mathlib.Omega.{arith}
use lib.Dec.{leb}
use lib.ListN.{length, replicate}
use borrow.Author.Tests.{leb-true, leb-false}
use Rattle.words.specs.Small.{concat_map}
use Rattle.words.proofs.Bools.{decide}
use Rattle.runs.specs.Model.{Model}
use Rattle.runs.specs.Listing.{RecordsOf, Listed, IsListOf, IsListing}
use Rattle.runs.proofs.Sorted.{sorted, sorted_ascending, sorted_cases, sorted_make}
use Rattle.runs.proofs.Search.{Covers, search, cuts, search_right, cuts_right}

-- an answer and the bytes that it leaves
pub record Answered (O : List ℕ → Type 0) (C : Type 0) (size : ℕ) : Type 0 where
  pub answer : Listed
  pub out : List ℕ
  pub right : IsListOf O C size answer out

-- where the outcomes are the members of a list and the cut is a test
pub list_exists : (O : List ℕ → Type 0) (C : Type 0) (size : ℕ) (l : List (List ℕ)) (cut : Bool) → ((r : List ℕ) → Memᴰ r l ↔ O r) → (cut ≡ true) ↔ C → Answered O C size
list_exists O C size l cut members mark = ⊎_elim fits full (decide (leb (length (sorted l)) (size / 96)))
  where
    right : RecordsOf O (sorted l)
    right = record { sorted = sorted_ascending l; members = λ r. (λ k. (members r).0 (sorted_cases l r k), λ o. sorted_make l r ((members r).1 o)) }

    fits : leb (length (sorted l)) (size / 96) ≡ true → Answered O C size
    fits h =
        record {
          answer = record { code = 0; count = length (sorted l); cut = cut };
          out = concat_map (λ r. r) (sorted l) ++ replicate (size - 96 * length (sorted l)) 0;
          right =
              record {
                records = sorted l;
                right = right;
                fits = λ g. record { code = refl; count = refl; cut = mark; bytes = refl };
                full = λ g. absurd (omega (arith, leb-true (length (sorted l)) (size / 96) h));
              };
        }

    full : leb (length (sorted l)) (size / 96) ≡ false → Answered O C size
    full h =
        record {
          answer = record { code = 11; count = 0; cut = false };
          out = replicate size 0;
          right =
              record {
                records = sorted l;
                right = right;
                fits = λ g. absurd (omega (arith, leb-false (length (sorted l)) (size / 96) h));
                full = λ g. record { code = refl; count = refl; cut = refl; bytes = refl };
              };
        }

pub listing_exists : (m : Model) (steps : m.State → List m.Step) → Covers m steps → (n size : ℕ) → (a : Listed) × (out : List ℕ) × IsListing m n size a out
listing_exists m steps K n size = let x = list_exists _ _ size (search m steps n m.initial) (cuts m steps n m.initial) (search_right m steps K n) (cuts_right m steps K n) in (x.answer, x.out, x.right)
