-- The codes of a listing: those of its block first, then 10. Assumes nothing.
use mathlib.Core.Path.{◌≡◌, refl, sym, ◌∙◌, subst}
use mathlib.Core.List.{List, [], ◌∷◌, ◌++◌}
use Prim.Native.Nat.{ℕ, zero, suc, ◌≤◌, ◌<◌}
use native.Mathlib.Omega.{arith}
use native.Mathlib.Decide.{dec_lt}
use lib.Dec.{ltb}
use borrow.Author.Tests.{lt-ltb, le-ltb}
use Rattle.words.specs.Refusals.{◌when◌, first_code_of}
use Rattle.words.proofs.Passed.{passed, first_left, first_right}
use Rattle.cases.specs.declared.Case.{Case}
use Rattle.cases.specs.declared.CaseRead.{CaseRead}
use Rattle.cases.specs.Block.{refusals, case_of, read_of}
use Rattle.cases.proofs.Told.{read_code, read_position, read_as, read_sound, accepted_position}
use Rattle.runs.specs.Listing.{Listed, Refused, IsListing}
use Rattle.rules.specs.Womm.{womm}
use Rattle.machine.specs.Fit.{Fit}
use Rattle.machine.proofs.Fits.{fit}
use Rattle.listing.specs.Outcomes.{list_refusals, IsOutcomes}

module _ (block : List ℕ) (bound : ℕ) where
  first_block : 0 < first_code_of (refusals block) → first_code_of (list_refusals block bound) ≡ first_code_of (refusals block)
  unfolding list_refusals
  first_block = first_left (refusals block) (10 when ltb 96 bound ∷ [])

  first_bound : first_code_of (refusals block) ≡ 0 → 96 < bound → first_code_of (list_refusals block bound) ≡ 10
  unfolding list_refusals first_code_of
  first_bound h l = first_right (refusals block) (10 when ltb 96 bound ∷ []) (passed (refusals block) refl h) ∙ rw (lt-ltb 96 bound l)

  pub accepted : first_code_of (refusals block) ≡ 0 → bound ≤ 96 → first_code_of (list_refusals block bound) ≡ 0
  unfolding list_refusals first_code_of
  accepted h l = first_right (refusals block) (10 when ltb 96 bound ∷ []) (passed (refusals block) refl h) ∙ rw (le-ltb 96 bound l)

  pub accepted_block : first_code_of (list_refusals block bound) ≡ 0 → first_code_of (refusals block) ≡ 0
  accepted_block h = by_code_lem (first_code_of (refusals block)) refl
    where
      by_code_lem : (n : ℕ) → first_code_of (refusals block) ≡ n → first_code_of (refusals block) ≡ 0
      by_code_lem zero e = e
      by_code_lem (suc n) e = absurd (omega (arith, e, first_block (omega (arith, e)), h))

  module _ {size : ℕ} {a : Listed} {at : ℕ} {out : List ℕ} where
    -- refused with the first code that applies
    outcomes_refused : (code : ℕ) → 0 < code → first_code_of (list_refusals block bound) ≡ code → at ≡ (read_of block).position → Refused code size a out → IsOutcomes block bound size a at out
    outcomes_refused code h e q x = record { sound = λ z. absurd (omega (arith, e)); unsound = λ _. subst (λ (k : ℕ). Refused k size a out) (sym e) x; position = q }

    -- listed, where none applies
    outcomes_listed : first_code_of (list_refusals block bound) ≡ 0 → at ≡ (read_of block).position → IsListing (womm (case_of block)) bound size a out → IsOutcomes block bound size a at out
    outcomes_listed e q x = record { sound = λ _. x; unsound = λ h. absurd (omega (arith, e)); position = q }

-- two blocks with the same code
pub same_code : (s t : List ℕ) (bound : ℕ) → first_code_of (refusals s) ≡ first_code_of (refusals t) → first_code_of (list_refusals s bound) ≡ first_code_of (list_refusals t bound)
same_code s t bound e = by_code_lem (first_code_of (refusals s)) refl
  where
    by_code_lem : (n : ℕ) → first_code_of (refusals s) ≡ n → first_code_of (list_refusals s bound) ≡ first_code_of (list_refusals t bound)
    by_code_lem zero z =
        elim (dec_lt 96 bound) [
          | yes l ↦ first_bound s bound z l ∙ sym (first_bound t bound (sym e ∙ z) l)
          | no g ↦ let l : bound ≤ 96 = omega arith in accepted s bound z l ∙ sym (accepted t bound (sym e ∙ z) l)
        ]
    by_code_lem (suc n) z = first_block s bound (omega (arith, z)) ∙ e ∙ sym (first_block t bound (omega (arith, z, e)))

-- a block that is read as r
module _ (block : List ℕ) {r : CaseRead} (read : r ≡ read_of block) where
  accepted_code : r.code ≡ 0 → first_code_of (refusals block) ≡ 0
  accepted_code z = sym (read_code block read) ∙ z

  -- a sound case has what the machine asks
  pub read_fit : r.code ≡ 0 → Fit r.case
  read_fit z = subst Fit (sym (read_as block read (accepted_code z))) (fit block (read_sound block (accepted_code z)))

  module _ {bound size : ℕ} {a : Listed} {at : ℕ} {out : List ℕ} where
    pub refused_block : (r.code ≡ 0 → ⊥) → Refused r.code size a out → at ≡ r.position → IsOutcomes block bound size a at out
    refused_block some x q =
        let h : 0 < r.code = omega (arith, some) in
        outcomes_refused block bound r.code h (first_block block bound (subst (λ (k : ℕ). 0 < k) (read_code block read) h) ∙ sym (read_code block read)) (q ∙ read_position block read) x

    pub refused_bound : r.code ≡ 0 → 96 < bound → Refused 10 size a out → at ≡ 0 → IsOutcomes block bound size a at out
    refused_bound z l x q = outcomes_refused block bound 10 (omega arith) (first_bound block bound (accepted_code z) l) (q ∙ sym (accepted_position block (accepted_code z))) x

    pub listed_case : r.code ≡ 0 → bound ≤ 96 → IsListing (womm r.case) bound size a out → at ≡ 0 → IsOutcomes block bound size a at out
    listed_case z l x q = outcomes_listed block bound (accepted block bound (accepted_code z) l) (q ∙ sym (accepted_position block (accepted_code z))) (subst (λ (c : Case). IsListing (womm c) bound size a out) (read_as block read (accepted_code z)) x)
