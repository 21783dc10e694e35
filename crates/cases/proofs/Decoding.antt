-- The case that a block holds, as the code reads it. Assumes nothing.
use mathlib.Core.Path.{◌≡◌, refl, ap, sym, ◌∙◌}
use mathlib.Core.Bool.{Bool, false, ◌&&◌}
use mathlib.Core.List.{List}
use Prim.Native.Nat.{ℕ, zero, suc, ◌+◌, ◌*◌, ◌<◌, ◌≤◌}
use native.Mathlib.Nat.{mul-le-mul}
use native.Mathlib.Numerals.{add-one}
use native.Mathlib.Omega.{arith}
use lib.Dec.{eqb, lit<}
use lib.ListN.{length}
use borrow.Author.Tests.{eq-eqb, ne_eqb}
use Rattle.words.specs.Small.{each}
use Rattle.words.specs.Refusals.{first_code_of}
use Rattle.words.proofs.First.{hit, miss, first, and_no_left, not_yes, not_no}
use Rattle.cases.specs.declared.Fault.{Fault}
use Rattle.cases.specs.declared.Case.{Case}
use Rattle.cases.specs.declared.Instr.{Instr}
use Rattle.cases.specs.declared.Slot.{Slot}
use Rattle.cases.specs.declared.Instr.TheVariants.{Empty}
use Rattle.cases.specs.Instruction.{instr_of}
use Rattle.cases.specs.Block.{byte, word, marked, weighted, check, faults, refusals, position_of, fault_of, slot_at, case_of, nothing, case_with, read_of}
use Rattle.cases.proofs.Lowest.{fault_none}

-- check: one byte more

pub weight_bound : (w b : ℕ) → w < 511 → b < 256 → w * b ≤ 130050
weight_bound w b h k = let p : w ≤ 510 = omega arith in let q : b ≤ 255 = omega arith in mul-le-mul p q

pub weighted_none : (s : List ℕ) → 0 ≡ weighted s 0
unfolding weighted
weighted_none s = refl

pub weighted_more : (s : List ℕ) (i sum b : ℕ) → sum ≡ weighted s i → b ≡ (i + 1) * byte s i → sum + b ≡ weighted s (i + 1)
unfolding weighted
weighted_more s i sum b h k = rw (h, k, add-one i)

-- refusal

module _ (s : List ℕ) where
  pub not_512 : (length s ≡ 512 → ⊥) → record { code = 1; position = 0 } ≡ fault_of s (first_code_of (refusals s))
  not_512 h = fault_none s 1 _ (lit< tt) (first (refusals s) (hit (not_yes _ (ne_eqb (length s) 512 h))))

  pub not_check : length s ≡ 512 → (word s 510 ≡ check s → ⊥) → record { code = 2; position = 0 } ≡ fault_of s (first_code_of (refusals s))
  not_check h k = fault_none s 2 _ (lit< tt) (first (refusals s) (miss (not_no _ (eq-eqb (length s) 512 h)) (hit (not_yes _ (ne_eqb (word s 510) (check s) k)))))

  pub past_check : length s ≡ 512 → word s 510 ≡ check s → first_code_of (faults s) ≡ first_code_of (refusals s)
  unfolding first_code_of
  past_check h k = rw (eq-eqb (length s) 512 h, eq-eqb (word s 510) (check s) k)

-- read_case

module _ (s : List ℕ) (f : Fault) (h : f ≡ fault_of s (first_code_of (refusals s))) (c : Case) where
  code_is : f.code ≡ first_code_of (refusals s)
  code_is = ap (λ (f : Fault). f.code) h

  pub read_refused : (f.code ≡ 0 → ⊥) → c ≡ nothing → record { code = f.code; position = f.position; usual = false; case = c } ≡ read_of s
  unfolding read_of
  read_refused k e =
      let position = ap (λ (f : Fault). f.position) h in
      let case = e ∙ refused (first_code_of (refusals s)) (λ z. k (code_is ∙ z)) in
      let usual = sym (and_no_left (eqb (first_code_of (refusals s)) 0) (marked s 2) (ne_eqb (first_code_of (refusals s)) 0 (λ z. k (code_is ∙ z)))) in
      λ j. record { code = code_is j; position = position j; usual = usual j; case = case j }
    where
      refused : (n : ℕ) → (n ≡ 0 → ⊥) → nothing ≡ case_with n (case_of s)
      refused zero k = absurd (k refl)
      refused (suc n) k = refl

  pub read_accepted : (usual : Bool) → f.code ≡ 0 → usual ≡ marked s 2 → c ≡ case_of s → record { code = 0; position = 0; usual = usual; case = c } ≡ read_of s
  unfolding read_of position_of
  read_accepted usual k u e = (λ j. record { code = 0; position = 0; usual = u j; case = e j }) ∙ ap (λ (n : ℕ). record { code = n; position = position_of s n; usual = eqb n 0 && marked s 2; case = case_with n (case_of s) }) (sym k ∙ code_is)

-- slot

pub slot_is : (s : List ℕ) (n op d a b k : ℕ) (r : Instr) → op ≡ byte s (92 + 6 * n) → d ≡ byte s (92 + 6 * n + 1) → a ≡ byte s (92 + 6 * n + 2) → b ≡ byte s (92 + 6 * n + 3) → k ≡ word s (92 + 6 * n + 4) → r ≡ instr_of op d a b k → record { instr = r } ≡ slot_at s n
slot_is s n op d a b k r h₀ h₁ h₂ h₃ h₄ e = (λ j. record { instr = e j }) ∙ (λ j. record { instr = instr_of (h₀ j) (h₁ j) (h₂ j) (h₃ j) (h₄ j) })

-- case_of

pub case_is : (s : List ℕ) (p m : ℕ) (counts masks presets memory : List ℕ) (code : List Slot) → p ≡ byte s 0 → m ≡ byte s 1 → counts ≡ each 4 (λ i. byte s (4 + i)) → masks ≡ each 4 (λ i. byte s (8 + i)) → presets ≡ each 32 (λ i. word s (12 + 2 * i)) → memory ≡ each 8 (λ i. word s (76 + 2 * i)) → code ≡ each 48 (slot_at s) → record { procs = p; locs = m; counts = counts; masks = masks; presets = presets; memory = memory; code = code } ≡ case_of s
unfolding case_of
case_is s p m counts masks presets memory code h₀ h₁ h₂ h₃ h₄ h₅ h₆ = λ j. record { procs = h₀ j; locs = h₁ j; counts = h₂ j; masks = h₃ j; presets = h₄ j; memory = h₅ j; code = h₆ j }

-- instr_of: an op that is none

pub no_instr : (op d a b k : ℕ) → (op ≡ 1 → ⊥) → (op ≡ 2 → ⊥) → (op ≡ 3 → ⊥) → (op ≡ 4 → ⊥) → (op ≡ 5 → ⊥) → (op ≡ 6 → ⊥) → (op ≡ 7 → ⊥) → (op ≡ 8 → ⊥) → (op ≡ 9 → ⊥) → (op ≡ 10 → ⊥) → Empty ≡ instr_of op d a b k
no_instr zero d a b k n1 n2 n3 n4 n5 n6 n7 n8 n9 n10 = refl
no_instr (suc zero) d a b k n1 n2 n3 n4 n5 n6 n7 n8 n9 n10 = absurd (n1 refl)
no_instr (suc (suc zero)) d a b k n1 n2 n3 n4 n5 n6 n7 n8 n9 n10 = absurd (n2 refl)
no_instr (suc (suc (suc zero))) d a b k n1 n2 n3 n4 n5 n6 n7 n8 n9 n10 = absurd (n3 refl)
no_instr (suc (suc (suc (suc zero)))) d a b k n1 n2 n3 n4 n5 n6 n7 n8 n9 n10 = absurd (n4 refl)
no_instr (suc (suc (suc (suc (suc zero))))) d a b k n1 n2 n3 n4 n5 n6 n7 n8 n9 n10 = absurd (n5 refl)
no_instr (suc (suc (suc (suc (suc (suc zero)))))) d a b k n1 n2 n3 n4 n5 n6 n7 n8 n9 n10 = absurd (n6 refl)
no_instr (suc (suc (suc (suc (suc (suc (suc zero))))))) d a b k n1 n2 n3 n4 n5 n6 n7 n8 n9 n10 = absurd (n7 refl)
no_instr (suc (suc (suc (suc (suc (suc (suc (suc zero)))))))) d a b k n1 n2 n3 n4 n5 n6 n7 n8 n9 n10 = absurd (n8 refl)
no_instr (suc (suc (suc (suc (suc (suc (suc (suc (suc zero))))))))) d a b k n1 n2 n3 n4 n5 n6 n7 n8 n9 n10 = absurd (n9 refl)
no_instr (suc (suc (suc (suc (suc (suc (suc (suc (suc (suc zero)))))))))) d a b k n1 n2 n3 n4 n5 n6 n7 n8 n9 n10 = absurd (n10 refl)
no_instr (suc (suc (suc (suc (suc (suc (suc (suc (suc (suc (suc op))))))))))) d a b k n1 n2 n3 n4 n5 n6 n7 n8 n9 n10 = refl
