-- What seal answers, the three ways out; what write_case does by it. Assumes nothing.
use mathlib.Core.Path.{◌≡◌, ap, sym, ◌∙◌}
use mathlib.Core.Bool.{not, cond}
use mathlib.Core.List.{List, ◌∷◌, ◌++◌}
use Prim.Native.Nat.{ℕ, ◌-◌, ◌<◌}
use native.Mathlib.Omega.{arith}
use lib.Dec.{eqb, lit<}
use lib.ListN.{length, get_or, set, take, replicate}
use lib.Seq.{get_or-take, set-get_or}
use borrow.Author.Tests.{eq-eqb, ne_eqb}
use Rattle.words.specs.Refusals.{◌when◌, first_code_of}
use Rattle.words.proofs.Bools.{cond-true, cond-false}
use Rattle.words.proofs.First.{hit, first, not_yes}
use Rattle.cases.specs.declared.Case.{Case}
use Rattle.cases.specs.declared.Fault.{Fault}
use Rattle.cases.specs.Instruction.{two}
use Rattle.cases.specs.Block.{faults, check, contents, block_of, fault_of, unbounded, seal_code, seal_fault, sealed, write_code, write_fault, written}
use Rattle.cases.proofs.Agree.{faults_same, fault_same, check_same}
use Rattle.cases.proofs.Lowest.{fault_none}

module _ (b b' : List ℕ) where
  -- all zeros
  zeros : (n : ℕ) → n ≡ seal_code b → (n ≡ 0 → ⊥) → b' ≡ take 0 b ++ replicate (length b - 0) 0 → b' ≡ sealed b
  unfolding sealed
  zeros n q h e =
      let z : length b - 0 ≡ length b = omega arith in
      e ∙ ap (λ (n : ℕ). replicate n 0) z ∙ sym (cond-false (eqb (seal_code b) 0) (take 510 (unbounded b) ++ two (check (unbounded b))) (replicate (length b) 0) (ne_eqb _ 0 (λ w. h (q ∙ w))))

  pub no_room : (length b ≡ 512 → ⊥) → b' ≡ take 0 b ++ replicate (length b - 0) 0 → (record { code = 1; position = 0 } ≡ seal_fault b) × (b' ≡ sealed b)
  unfolding seal_code
  no_room h e =
      let q = first (1 when not (eqb (length b) 512) ∷ faults b) (hit (not_yes _ (ne_eqb (length b) 512 h))) in
      (fault_none b 1 (seal_code b) (lit< tt) q, zeros 1 q (λ w. absurd (omega arith)) e)

  module _ (size : length b ≡ 512) (f : Fault) (e : f ≡ fault_of b (first_code_of (faults b))) where
    judged : first_code_of (faults b) ≡ seal_code b
    unfolding seal_code first_code_of
    judged = rw (eq-eqb (length b) 512 size)

    fault_is : f ≡ seal_fault b
    fault_is = e ∙ ap (fault_of b) judged

    code_is : f.code ≡ seal_code b
    code_is = ap (λ (f : Fault). f.code) fault_is

    pub refused : (f.code ≡ 0 → ⊥) → b' ≡ take 0 b ++ replicate (length b - 0) 0 → (f ≡ seal_fault b) × (b' ≡ sealed b)
    refused h z = (fault_is, zeros f.code code_is h z)

    pub accepted : f.code ≡ 0 → b' ≡ take 510 (unbounded b) ++ two (check (unbounded b)) → (f ≡ seal_fault b) × (b' ≡ sealed b)
    unfolding sealed
    accepted h z = (fault_is, z ∙ sym (cond-true (eqb (seal_code b) 0) (take 510 (unbounded b) ++ two (check (unbounded b))) (replicate (length b) 0) (eq-eqb _ 0 (sym code_is ∙ h))))

-- a buffer that is filled with the contents of a case, and then sealed
module _ (c : Case) (s : List ℕ) (long : length s ≡ 512) (front : take 510 s ≡ contents c) where
  agrees : (i : ℕ) → i < 510 → get_or s i 0 ≡ get_or (contents c) i 0
  agrees i h = sym (get_or-take 510 s i 0 h) ∙ ap (λ (l : List ℕ). get_or l i 0) front

  code_written : seal_code s ≡ write_code c 512
  unfolding seal_code write_code first_code_of
  code_written = rw (eq-eqb (length s) 512 long) (faults_same s (contents c) agrees)

  pub fault_written : seal_fault s ≡ write_fault c 512
  fault_written = fault_same s (contents c) agrees (seal_code s) (write_code c 512) code_written

  -- the contents of a case have no usual bound
  no_bound : unbounded s ≡ s
  unfolding contents
  no_bound = ap (set s 2) (sym (agrees 2 (lit< tt))) ∙ set-get_or s 2 0

  pub sealed-written : sealed s ≡ written c 512
  unfolding sealed written block_of
  sealed-written =
      ap (λ (l : List ℕ). cond (eqb (seal_code s) 0) (take 510 l ++ two (check l)) (replicate (length s) 0)) no_bound
      ∙ ap (λ (n : ℕ). cond (eqb n 0) (take 510 s ++ two (check s)) (replicate (length s) 0)) code_written
      ∙ (λ i. cond (eqb (write_code c 512) 0) (front i ++ two (check_same s (contents c) agrees i)) (replicate (long i) 0))

module _ (c : Case) (b b' : List ℕ) where
  -- no room for the block
  pub unwritten : (length b ≡ 512 → ⊥) → b' ≡ take 0 b ++ replicate (length b - 0) 0 → (record { code = 1; position = 0 } ≡ write_fault c (length b)) × (b' ≡ written c (length b))
  unfolding written write_code
  unwritten h e =
      let q = first (1 when not (eqb (length b) 512) ∷ faults (contents c)) (hit (not_yes _ (ne_eqb (length b) 512 h))) in
      let n : length b - 0 ≡ length b = omega arith in
      (fault_none (contents c) 1 (write_code c (length b)) (lit< tt) q, e ∙ ap (λ (n : ℕ). replicate n 0) n ∙ sym (cond-false (eqb (write_code c (length b)) 0) (block_of c) (replicate (length b) 0) (ap (λ (n : ℕ). eqb n 0) (sym q))))

  pub written_by : (f : Fault) (s : List ℕ) → length b ≡ 512 → length s ≡ 512 → take 510 s ≡ contents c → (f ≡ seal_fault s) × (b' ≡ sealed s) → (f ≡ write_fault c (length b)) × (b' ≡ written c (length b))
  written_by f s size long front w =
      let q : 512 ≡ length b = sym size in
      (w.0 ∙ fault_written c s long front ∙ ap (write_fault c) q, w.1 ∙ sealed-written c s long front ∙ ap (written c) q)
