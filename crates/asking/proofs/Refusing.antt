-- The codes of a question: those of its block first, then 10, 12 and 13. Assumes nothing.
use mathlib.Core.Path.{◌≡◌, refl, sym, ◌∙◌, ap, subst}
use mathlib.Core.Bool.{Bool, true, false, not}
use mathlib.Core.List.{List, [], ◌∷◌, ◌++◌}
use Prim.Native.Nat.{ℕ, zero, suc, ◌≤◌, ◌<◌}
use native.Mathlib.Omega.{arith}
use lib.Dec.{eqb, ltb}
use lib.ListN.{length}
use borrow.Author.Tests.{lt-ltb, le-ltb, eq-eqb, ne_eqb}
use Rattle.words.specs.Refusals.{◌when◌, first_code_of}
use Rattle.words.proofs.Passed.{passed, first_left, first_right}
use Rattle.cases.specs.declared.Case.{Case}
use Rattle.cases.specs.declared.CaseRead.{CaseRead}
use Rattle.cases.specs.Block.{refusals, case_of, read_of}
use Rattle.cases.proofs.Told.{read_code, read_position, read_as, read_sound, accepted_position}
use Rattle.clauses.specs.declared.Clause.{Clause}
use Rattle.clauses.specs.declared.Asked.{Asked}
use Rattle.clauses.specs.Wanted.{meets_all, Askable, wanted, clauses_of}
use Rattle.runs.specs.Wanted.{Wish}
use Rattle.runs.specs.Asking.{Answered, IsAnswer, Refused}
use Rattle.rules.specs.Bytes.{step_bytes}
use Rattle.rules.specs.Womm.{womm}
use Rattle.machine.specs.Fit.{Fit}
use Rattle.machine.proofs.Fits.{fit}
use Rattle.asking.specs.Asked.{bad_clauses, ask_refusals, IsAsked}
use Rattle.asking.proofs.Held.{held_clauses, askable}

-- the last three codes
last_code : (a b d : Bool) → ℕ
last_code a b d = first_code_of (10 when a ∷ 12 when b ∷ 13 when not d ∷ [])

module _ (block : List ℕ) (bound : ℕ) (ks : List Clause) (size : ℕ) where
  first_block : 0 < first_code_of (refusals block) → first_code_of (ask_refusals block bound ks size) ≡ first_code_of (refusals block)
  unfolding ask_refusals
  first_block = first_left (refusals block) _

  first_last : first_code_of (refusals block) ≡ 0 → {a b d : Bool} → ltb 96 bound ≡ a → bad_clauses (case_of block).procs ks ≡ b → eqb size 384 ≡ d → first_code_of (ask_refusals block bound ks size) ≡ last_code a b d
  unfolding ask_refusals last_code
  first_last h p q r = first_right (refusals block) _ (passed (refusals block) refl h) ∙ (λ i. first_code_of (10 when p i ∷ 12 when q i ∷ 13 when not (r i) ∷ []))

  -- where nothing is refused the clauses are not bad
  pub fair_clauses : first_code_of (ask_refusals block bound ks size) ≡ 0 → bad_clauses (case_of block).procs ks ≡ false
  unfolding last_code first_code_of
  fair_clauses z = by_code_lem (first_code_of (refusals block)) refl
    where
      by_code_lem : (n : ℕ) → first_code_of (refusals block) ≡ n → bad_clauses (case_of block).procs ks ≡ false
      by_code_lem zero e = (passed (10 when ltb 96 bound ∷ 12 when bad_clauses (case_of block).procs ks ∷ 13 when not (eqb size 384) ∷ []) refl (sym (first_last e refl refl refl) ∙ z)).1.0
      by_code_lem (suc n) e = absurd (omega (arith, e, first_block (omega (arith, e)), z))

  module _ {a : Answered} {at : ℕ} {out : List ℕ} (place : at ≡ (read_of block).position) where
    asked_refused : (code : ℕ) → 0 < code → first_code_of (ask_refusals block bound ks size) ≡ code → Refused code size a out → IsAsked block bound ks size a at out
    asked_refused code h e x = record { sound = λ z. absurd (omega (arith, e)); unsound = λ _. subst (λ (k : ℕ). Refused k size a out) (sym e) x; position = place }

    asked_answered : first_code_of (ask_refusals block bound ks size) ≡ 0 → IsAnswer (womm (case_of block)) (meets_all ks) step_bytes bound size a out → IsAsked block bound ks size a at out
    asked_answered e x = record { sound = λ _. x; unsound = λ h. absurd (omega (arith, e)); position = place }

-- a block that is read as r
module _ (block : List ℕ) {r : CaseRead} (read : r ≡ read_of block) where
  accepted : r.code ≡ 0 → first_code_of (refusals block) ≡ 0
  accepted z = sym (read_code block read) ∙ z

  pub read_fit : r.code ≡ 0 → Fit r.case
  read_fit z = subst Fit (sym (read_as block read (accepted z))) (fit block (read_sound block (accepted z)))

  nowhere : r.code ≡ 0 → {at : ℕ} → at ≡ 0 → at ≡ (read_of block).position
  nowhere z e = e ∙ sym (accepted_position block (accepted z))

  module _ (bound : ℕ) (asked : Asked) (size : ℕ) where
    abbrev ks : List Clause
    ks = clauses_of asked

    codes : r.code ≡ 0 → {p q d : Bool} → ltb 96 bound ≡ p → bad_clauses r.case.procs ks ≡ q → eqb size 384 ≡ d → first_code_of (ask_refusals block bound ks size) ≡ last_code p q d
    codes z h k l = first_last block bound ks size (accepted z) h (ap (λ (c : Case). bad_clauses c.procs ks) (sym (read_as block read (accepted z))) ∙ k) l

    module _ {a : Answered} {at : ℕ} {out : List ℕ} where
      pub refused_block : (r.code ≡ 0 → ⊥) → Refused r.code size a out × (at ≡ r.position) → IsAsked block bound ks size a at out
      refused_block some x =
          let h : 0 < r.code = omega (arith, some) in
          asked_refused block bound ks size (x.1 ∙ read_position block read) r.code h (first_block block bound ks size (subst (λ (k : ℕ). 0 < k) (read_code block read) h) ∙ sym (read_code block read)) x.0

      pub refused_bound : r.code ≡ 0 → 96 < bound → Refused 10 size a out × (at ≡ 0) → IsAsked block bound ks size a at out
      unfolding last_code first_code_of
      refused_bound z l x = asked_refused block bound ks size (nowhere z x.1) 10 (omega arith) (codes z (lt-ltb 96 bound l) refl refl) x.0

    -- of the block and the bound nothing is refused
    module _ (z : r.code ≡ 0) (l : bound ≤ 96) where
      pub refused_clauses : bad_clauses r.case.procs ks ≡ true → {a : Answered} {at : ℕ} {out : List ℕ} → Refused 12 size a out × (at ≡ 0) → IsAsked block bound ks size a at out
      unfolding last_code first_code_of
      refused_clauses h x = asked_refused block bound ks size (nowhere z x.1) 12 (omega arith) (codes z (le-ltb 96 bound l) h refl) x.0

      -- nor of the clauses
      module _ (h : bad_clauses r.case.procs ks ≡ false) where
        pub refused_buffer : (size ≡ 384 → ⊥) → {a : Answered} {at : ℕ} {out : List ℕ} → Refused 13 size a out × (at ≡ 0) → IsAsked block bound ks size a at out
        unfolding last_code first_code_of
        refused_buffer n x = asked_refused block bound ks size (nowhere z x.1) 13 (omega arith) (codes z (le-ltb 96 bound l) h (ne_eqb size 384 n)) x.0

        pub can_ask : length asked.clauses ≡ 8 → Askable asked
        can_ask long = askable r.case.procs (read_fit z).procs asked long h

        pub settled_case : length asked.clauses ≡ 8 → size ≡ 384 → {a : Answered} {at : ℕ} {out : List ℕ} → IsAnswer (womm r.case) (wanted asked) step_bytes bound 384 a out × (at ≡ 0) → IsAsked block bound ks size a at out
        unfolding last_code first_code_of
        settled_case long n {a} {at} {out} x =
            asked_answered block bound ks size (nowhere z x.1) (codes z (le-ltb 96 bound l) h (eq-eqb size 384 n))
            (subst (λ (k : ℕ). IsAnswer (womm (case_of block)) (meets_all ks) step_bytes bound k a out) (sym n)
            (subst (λ (W : Wish). IsAnswer (womm (case_of block)) W step_bytes bound 384 a out) (ap meets_all (held_clauses asked (can_ask long).0))
            (subst (λ (c : Case). IsAnswer (womm c) (wanted asked) step_bytes bound 384 a out) (read_as block read (accepted z)) x.0)))
