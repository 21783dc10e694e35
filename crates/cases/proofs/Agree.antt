-- Codes 3 to 7 and 19, their positions and the check look at bytes 0 to 509 alone; at byte 2 the codes ask only whether it is over 96. Assumes nothing.
use mathlib.Core.Path.{◌≡◌, refl, ap, sym, ◌∙◌, subst}
use mathlib.Core.Logic.{⊎_elim}
use mathlib.Core.Bool.{Bool, true, cond}
use mathlib.Core.List.{List}
use Prim.Native.Nat.{ℕ, zero, suc, ◌+◌, ◌*◌, ◌-◌, ◌/◌, ◌%◌, ◌<◌, ◌≤◌}
use native.Mathlib.Omega.{arith}
use lib.Dec.{eqb, ltb, leb}
use lib.ListN.{get_or}
use borrow.Author.Tests.{ltb-true, leb-true, eqb-true, eqb-false}
use Rattle.words.specs.Refusals.{first_code_of}
use Rattle.words.proofs.Bools.{decide, and_both, below-same}
use Rattle.cases.specs.Block.{within, weighted, check, bad3, bad4, zero5, bad5, bad_byte, bad6, bad7, assigns_at, is_set, bad19, faults, lowest, bad, position_of, fault_of}

lowest-same : (n : ℕ) (f g : ℕ → Bool) → ((i : ℕ) → i < n → f i ≡ g i) → lowest n f ≡ lowest n g
unfolding lowest
lowest-same zero f g h = refl
lowest-same (suc n) f g h = rw (h 0 (omega arith), lowest-same n (λ i. f (suc i)) (λ i. g (suc i)) (λ i b. h (suc i) (omega arith)))

-- two blocks that differ in byte 2 at most, and there in nothing that a code asks for
module _ (s t : List ℕ) (same : (i : ℕ) → i < 510 → (i ≡ 2 → ⊥) → get_or s i 0 ≡ get_or t i 0) (over : ltb 96 (get_or s 2 0) ≡ ltb 96 (get_or t 2 0)) where
  past_2 : (i : ℕ) → 2 < i → i < 510 → get_or s i 0 ≡ get_or t i 0
  past_2 i h b = same i b (λ e. omega arith)

  procs : get_or s 0 0 ≡ get_or t 0 0
  procs = same 0 (omega arith) (λ e. omega arith)

  locs : get_or s 1 0 ≡ get_or t 1 0
  locs = same 1 (omega arith) (λ e. omega arith)

  -- at byte 2 and elsewhere
  each_place : (f g : ℕ → Bool) → f 2 ≡ g 2 → ((i : ℕ) → i < 510 → get_or s i 0 ≡ get_or t i 0 → f i ≡ g i) → (i : ℕ) → i < 510 → f i ≡ g i
  each_place f g here there i h = ⊎_elim (λ e. subst (λ (k : ℕ). f k ≡ g k) (sym (eqb-true i 2 e)) here) (λ e. there i h (same i h (eqb-false i 2 e))) (decide (eqb i 2))

  bad3_same : (i : ℕ) → i < 510 → bad3 s i ≡ bad3 t i
  unfolding bad3
  bad3_same i h = rw (procs, locs, over, past_2 3 (omega arith) (omega arith))

  bad4_same : (i : ℕ) → i < 510 → bad4 s i ≡ bad4 t i
  unfolding bad4
  bad4_same = each_place (bad4 s) (bad4 t) refl (λ i h e. rw (procs, e))

  zero5_same : (i : ℕ) → i < 510 → zero5 s i ≡ zero5 t i
  unfolding zero5
  zero5_same i h = rw (procs, locs, past_2 (8 + (i - 12) / 16) (omega arith) (omega arith))

  bad5_same : (i : ℕ) → i < 510 → bad5 s i ≡ bad5 t i
  unfolding bad5 zero5
  bad5_same = each_place (bad5 s) (bad5 t) refl (λ i h e. rw (zero5_same i h, e))

  bad_byte_same : (op n i : ℕ) → 2 < i → i < 509 → bad_byte s op n i ≡ bad_byte t op n i
  unfolding bad_byte
  bad_byte_same op n i l h = rw (past_2 i l (omega arith), past_2 (i + 1) (omega arith) (omega arith))

  -- a position of the instructions
  inside : (i : ℕ) → within 92 380 i ≡ true → (92 ≤ i) × (i < 380)
  inside i e = let w = and_both (leb 92 i) (ltb i 380) e in (leb-true 92 i w.0, ltb-true i 380 w.1)

  bad6_same : (i : ℕ) → i < 510 → bad6 s i ≡ bad6 t i
  unfolding bad6
  bad6_same i h = ⊎_elim here (λ e. rw e) (decide (within 92 380 i))
    where
      here : within 92 380 i ≡ true → bad6 s i ≡ bad6 t i
      here e =
          let b = inside i e in
          rw (past_2 (4 + (i - 92) / 72) (omega arith) (omega arith), past_2 (i - (i - 92) % 6) (omega arith) (omega arith), bad_byte_same (get_or t (i - (i - 92) % 6) 0) (get_or t (4 + (i - 92) / 72) 0) i (omega arith) (omega arith))

  bad7_same : (i : ℕ) → i < 510 → bad7 s i ≡ bad7 t i
  unfolding bad7
  bad7_same = each_place (bad7 s) (bad7 t) refl (λ i h e. rw (past_2 (4 + (i - 92) / 72) (omega arith) (omega arith), e))

  assigns-same : (p n r : ℕ) → p < 4 → n < 12 → assigns_at s p n r ≡ assigns_at t p n r
  unfolding assigns_at
  assigns-same p n r h l = rw (past_2 (4 + p) (omega arith) (omega arith), past_2 (92 + 72 * p + 6 * n) (omega arith) (omega arith), past_2 (93 + 72 * p + 6 * n) (omega arith) (omega arith))

  set_same : (p r : ℕ) → p < 4 → is_set s p r ≡ is_set t p r
  unfolding is_set
  set_same p r h = rw (past_2 (8 + p) (omega arith) (omega arith), below-same 12 (λ n. assigns_at s p n r) (λ n. assigns_at t p n r) (λ n l. assigns-same p n r h l))

  bad19_same : (i : ℕ) → i < 510 → bad19 s i ≡ bad19 t i
  unfolding bad19
  bad19_same i h = ⊎_elim here (λ e. rw e) (decide (within 92 380 i))
    where
      here : within 92 380 i ≡ true → bad19 s i ≡ bad19 t i
      here e =
          let b = inside i e in
          rw (past_2 (4 + (i - 92) / 72) (omega arith) (omega arith), past_2 (i - (i - 92) % 6) (omega arith) (omega arith), past_2 i (omega arith) h, set_same ((i - 92) / 72) (get_or t i 0) (omega arith))

  pub faults_alike : first_code_of (faults s) ≡ first_code_of (faults t)
  unfolding first_code_of
  faults_alike = rw (below-same 510 (bad3 s) (bad3 t) bad3_same, below-same 510 (bad4 s) (bad4 t) bad4_same, below-same 510 (bad5 s) (bad5 t) bad5_same, below-same 510 (bad6 s) (bad6 t) bad6_same, below-same 510 (bad7 s) (bad7 t) bad7_same, below-same 510 (bad19 s) (bad19 t) bad19_same)

  bad_same : (code i : ℕ) → i < 510 → bad s code i ≡ bad t code i
  unfolding bad
  bad_same code i h = rw (bad3_same i h, bad4_same i h, bad5_same i h, bad6_same i h, bad7_same i h, bad19_same i h)

  pub fault_alike : (code code' : ℕ) → code ≡ code' → fault_of s code ≡ fault_of t code'
  unfolding position_of
  fault_alike code code' e = (λ j. record { code = code; position = cond (ltb code 3) 0 (lowest-same 510 (bad s code) (bad t code) (bad_same code) j) }) ∙ ap (fault_of t) e

-- two blocks with the same bytes
module _ (s t : List ℕ) (same : (i : ℕ) → i < 510 → get_or s i 0 ≡ get_or t i 0) where
  over : ltb 96 (get_or s 2 0) ≡ ltb 96 (get_or t 2 0)
  over = ap (ltb 96) (same 2 (omega arith))

  pub faults_same : first_code_of (faults s) ≡ first_code_of (faults t)
  faults_same = faults_alike s t (λ i h e. same i h) over

  pub fault_same : (code code' : ℕ) → code ≡ code' → fault_of s code ≡ fault_of t code'
  fault_same = fault_alike s t (λ i h e. same i h) over

  weighted_same : (n : ℕ) → n ≤ 510 → weighted s n ≡ weighted t n
  unfolding weighted
  weighted_same zero h = refl
  weighted_same (suc n) h = rw (weighted_same n (omega arith), same n (omega arith))

  pub check_same : check s ≡ check t
  check_same = ap (λ (n : ℕ). n % 65521) (weighted_same 510 (omega arith))
