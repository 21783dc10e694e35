-- At most one answer satisfies the statement of a listing, and an unmarked list is that of every larger bound. Assumes nothing.
use mathlib.Core.Path.{◌≡◌, refl, sym, ◌∙◌, subst}
use mathlib.Core.Bool.{false}
use mathlib.Core.List.{List}
use Prim.Native.Nat.{ℕ, zero, suc, ◌*◌, ◌/◌, ◌≤◌, ◌<◌}
use native.Mathlib.Omega.{arith}
use native.Mathlib.Decide.{dec_lt}
use lib.ListN.{length}
use Rattle.words.specs.Refusals.{first_code_of}
use Rattle.cases.specs.declared.Case.{Case}
use Rattle.cases.specs.Block.{case_of}
use Rattle.cases.specs.Formed.{Twins}
use Rattle.cases.proofs.Twins.{twins_code, twins_case, twins_position}
use Rattle.runs.specs.Listing.{Listed, Refused, IsListing}
use Rattle.runs.proofs.Unique.{refused_unique}
use Rattle.rules.specs.Womm.{womm}
use Rattle.rules.proofs.Listing.{listing_unique, listing_same}
use Rattle.listing.specs.Outcomes.{list_refusals, IsOutcomes}
use Rattle.listing.proofs.Refusals.{accepted, accepted_block, same_code}

-- AT MOST ONE ANSWER
pub outcomes_unique : (block : List ℕ) (bound size : ℕ) (a b : Listed) (at to : ℕ) (out buf : List ℕ) → IsOutcomes block bound size a at out → IsOutcomes block bound size b to buf → (a ≡ b) × (at ≡ to) × (out ≡ buf)
outcomes_unique block bound size a b at to out buf x y = let r = by_code_lem (first_code_of (list_refusals block bound)) refl in (r.0, x.position ∙ sym y.position, r.1)
  where
    by_code_lem : (n : ℕ) → first_code_of (list_refusals block bound) ≡ n → (a ≡ b) × (out ≡ buf)
    by_code_lem zero e = listing_unique (case_of block) bound size a b out buf (x.sound e) (y.sound e)
    by_code_lem (suc n) e = let h : 0 < first_code_of (list_refusals block bound) = omega (arith, e) in refused_unique _ size a b out buf (x.unsound h) (y.unsound h)

-- THE SAME FOR LARGER BOUNDS
pub outcomes_same : (block : List ℕ) (bound more size : ℕ) (a : Listed) (at : ℕ) (out : List ℕ) → bound ≤ more → more ≤ 96 → a.code ≡ 0 → a.cut ≡ false → IsOutcomes block bound size a at out → IsOutcomes block more size a at out
outcomes_same block bound more size a at out le few ok unmarked x = by_code_lem (first_code_of (list_refusals block bound)) refl
  where
    by_code_lem : (n : ℕ) → first_code_of (list_refusals block bound) ≡ n → IsOutcomes block more size a at out
    by_code_lem zero e =
        let z = accepted block more (accepted_block block bound e) few in
        record { sound = λ _. listing_same (case_of block) bound more size a out le ok unmarked (x.sound e); unsound = λ h. absurd (omega (arith, z)); position = x.position }
    by_code_lem (suc n) e = let h : 0 < first_code_of (list_refusals block bound) = omega (arith, e) in absurd (omega (arith, (x.unsound h).code))

-- as many records as an accepted answer counts fit the buffer
pub outcomes_room : (block : List ℕ) (bound size : ℕ) (a : Listed) (at : ℕ) (out : List ℕ) → IsOutcomes block bound size a at out → a.code ≡ 0 → 96 * a.count ≤ size
outcomes_room block bound size a at out x ok = by_code_lem (first_code_of (list_refusals block bound)) refl
  where
    by_list : IsListing (womm (case_of block)) bound size a out → 96 * a.count ≤ size
    by_list y =
        elim (dec_lt (size / 96) (length y.records)) [
          | yes h ↦ absurd (omega (arith, (y.full h).code))
          | no h ↦ let few : length y.records ≤ size / 96 = omega arith in omega (arith, (y.fits few).count)
        ]

    by_code_lem : (n : ℕ) → first_code_of (list_refusals block bound) ≡ n → 96 * a.count ≤ size
    by_code_lem zero e = by_list (x.sound e)
    by_code_lem (suc n) e = let h : 0 < first_code_of (list_refusals block bound) = omega (arith, e) in absurd (omega (arith, (x.unsound h).code))

-- THE SAME FOR BLOCKS THAT DIFFER IN THE USUAL BOUND AND THE CHECK ALONE
pub twins_outcomes : (s t : List ℕ) (bound size : ℕ) (a : Listed) (at : ℕ) (out : List ℕ) → Twins s t → IsOutcomes s bound size a at out → IsOutcomes t bound size a at out
twins_outcomes s t bound size a at out w x =
    let code = same_code s t bound (twins_code s t w) in
    record {
      sound = λ z. subst (λ (c : Case). IsListing (womm c) bound size a out) (twins_case s t w) (x.sound (code ∙ z));
      unsound = λ h. subst (λ (n : ℕ). Refused n size a out) code (x.unsound (subst (λ (n : ℕ). 0 < n) (sym code) h));
      position = x.position ∙ twins_position s t w;
    }
