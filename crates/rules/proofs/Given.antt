-- In a sound case a register that a used instruction reads is preset, or some instruction of its processor assigns it. Assumes nothing.
use Rattle.std.proofs.Common.{◌≡◌, ℕ, zero, suc, ◌+◌, ◌*◌, ◌/◌, ◌%◌, ◌<◌, ◌≤◌, Bool, true, ◌&&◌, eqb, ltb, leb, ◌⊎◌, List, [], ◌∷◌, get_or, sym, refl, ap, ◌∙◌, subst, inl, inr, ⊎_elim, arith, lit<, ltb-false, ltb-true, lt-ltb, eqb-true, le-leb}
use mathlib.Core.Bool.{false≢true}
use mathlib.Core.List.Memᴰ
use mathlib.Core.List.{Memᴰ}
use mathlib.Core.Option.{some}
use Rattle.words.specs.Small.{some_below}
use Rattle.words.specs.Sets.{has}
use Rattle.words.proofs.Bools.{and_both, and_make, and_rest, or_none, or_cases, below_cases, cond-true}
use Rattle.words.proofs.Lists.{each_at}
use Rattle.cases.specs.declared.Instr.{Instr}
use Rattle.cases.specs.declared.Instr.TheVariants.{Empty}
use Rattle.cases.specs.declared.Slot.{Slot}
use Rattle.cases.specs.declared.Case.{Case}
use Rattle.cases.specs.Case.{count_of, instr_at, preset_of}
use Rattle.cases.specs.Instruction.{field_at, is_assigned, is_read, instr_of}
use Rattle.cases.specs.Block.{within, byte, word, used, bad4, assigns_at, is_set, slot_at, case_of, contents, Sound}
use Rattle.cases.specs.Formed.{Formed}
use Rattle.cases.proofs.Held.{Clean, clean, few_procs, at, read_set}
use Rattle.cases.proofs.Kept.{contents-kept}
use Rattle.rules.specs.Kinds.{reads, assigns}
use Rattle.rules.specs.Origin.{Assigned}

-- a preset gives the register, or an instruction assigns it
abbrev pub Given : Case → ℕ → ℕ → Type 0
Given c p r = ((v : ℕ) × (preset_of c p r ≡ some v)) ⊎ Assigned c p r

-- the fields of an op, and the registers of its instruction

assigns_d : (op d a b k : ℕ) → is_assigned (field_at op 0) ≡ true → assigns (instr_of op d a b k) ≡ some d
assigns_d zero d a b k h = absurd (false≢true h)
assigns_d (suc zero) d a b k h = refl
assigns_d (suc (suc zero)) d a b k h = absurd (false≢true h)
assigns_d (suc (suc (suc zero))) d a b k h = refl
assigns_d (suc (suc (suc (suc zero)))) d a b k h = refl
assigns_d (suc (suc (suc (suc (suc zero))))) d a b k h = refl
assigns_d (suc (suc (suc (suc (suc (suc zero)))))) d a b k h = refl
assigns_d (suc (suc (suc (suc (suc (suc (suc zero))))))) d a b k h = absurd (false≢true h)
assigns_d (suc (suc (suc (suc (suc (suc (suc (suc zero)))))))) d a b k h = absurd (false≢true h)
assigns_d (suc (suc (suc (suc (suc (suc (suc (suc (suc zero))))))))) d a b k h = absurd (false≢true h)
assigns_d (suc (suc (suc (suc (suc (suc (suc (suc (suc (suc zero)))))))))) d a b k h = absurd (false≢true h)
assigns_d (suc (suc (suc (suc (suc (suc (suc (suc (suc (suc (suc op))))))))))) d a b k h = absurd (false≢true h)

-- r is a or b, whose field is read
abbrev Field : ℕ → ℕ → ℕ → ℕ → Type 0
Field op a b r = ((is_read (field_at op 1) ≡ true) × (r ≡ a)) ⊎ ((is_read (field_at op 2) ≡ true) × (r ≡ b))

one : (op a b r : ℕ) → is_read (field_at op 1) ≡ true → Memᴰ r (a ∷ []) → Field op a b r
one op a b r h (Memᴰ.head e) = inl (h, e)
one op a b r h (Memᴰ.tail m) = absurd (Memᴰ.not-nil m)

both : (op a b r : ℕ) → is_read (field_at op 1) ≡ true → is_read (field_at op 2) ≡ true → Memᴰ r (a ∷ b ∷ []) → Field op a b r
both op a b r h k (Memᴰ.head e) = inl (h, e)
both op a b r h k (Memᴰ.tail (Memᴰ.head e)) = inr (k, e)
both op a b r h k (Memᴰ.tail (Memᴰ.tail m)) = absurd (Memᴰ.not-nil m)

read_field : (op d a b k r : ℕ) → Memᴰ r (reads (instr_of op d a b k)) → Field op a b r
read_field zero d a b k r m = absurd (Memᴰ.not-nil m)
read_field (suc zero) d a b k r m = one 1 a b r refl m
read_field (suc (suc zero)) d a b k r m = both 2 a b r refl refl m
read_field (suc (suc (suc zero))) d a b k r m = absurd (Memᴰ.not-nil m)
read_field (suc (suc (suc (suc zero)))) d a b k r m = both 4 a b r refl refl m
read_field (suc (suc (suc (suc (suc zero))))) d a b k r m = both 5 a b r refl refl m
read_field (suc (suc (suc (suc (suc (suc zero)))))) d a b k r m = both 6 a b r refl refl m
read_field (suc (suc (suc (suc (suc (suc (suc zero))))))) d a b k r m = one 7 a b r refl m
read_field (suc (suc (suc (suc (suc (suc (suc (suc zero)))))))) d a b k r m = absurd (Memᴰ.not-nil m)
read_field (suc (suc (suc (suc (suc (suc (suc (suc (suc zero))))))))) d a b k r m = one 9 a b r refl m
read_field (suc (suc (suc (suc (suc (suc (suc (suc (suc (suc zero)))))))))) d a b k r m = one 10 a b r refl m
read_field (suc (suc (suc (suc (suc (suc (suc (suc (suc (suc (suc op))))))))))) d a b k r m = absurd (Memᴰ.not-nil m)

module _ (s : List ℕ) (ok : Clean s) (p : ℕ) (h : p < 4) where
  count_is : count_of (case_of s) p ≡ byte s (4 + p)
  unfolding case_of
  count_is = each_at (λ q. byte s (4 + q)) 4 p 0 h

  mask_is : get_or (case_of s).masks p 0 ≡ byte s (8 + p)
  unfolding case_of
  mask_is = each_at (λ q. byte s (8 + q)) 4 p 0 h

  few : count_of (case_of s) p ≤ 12
  unfolding bad4
  few =
      let w = and_make (leb 4 (4 + p)) (ltb (4 + p) 8) (le-leb 4 (4 + p) (omega arith)) (lt-ltb (4 + p) 8 (omega arith)) in
      omega (arith, count_is, ltb-false 12 (byte s (4 + p)) (or_none _ _ (and_rest (within 4 8 (4 + p)) _ (ok.fourth (4 + p) (omega arith)) w)).0)

  instr_is : (i : ℕ) → i < 12 → instr_at (case_of s) p i ≡ (slot_at s (12 * p + i)).instr
  unfolding case_of
  instr_is i l = ap (λ (x : Slot). x.instr) (each_at (slot_at s) 48 (12 * p + i) (record { instr = Empty }) (omega arith))

  by_instr : (n r : ℕ) → n < 12 → assigns_at s p n r ≡ true → Assigned (case_of s) p r
  unfolding assigns_at
  by_instr n r l e =
      let a = and_both (used s p n && is_assigned (field_at (byte s (92 + 72 * p + 6 * n)) 0)) (eqb (byte s (93 + 72 * p + 6 * n)) r) e in
      let b = and_both (used s p n) (is_assigned (field_at (byte s (92 + 72 * p + 6 * n)) 0)) a.0 in
      let i = 92 + 6 * (12 * p + n) in
      let q : 92 + 72 * p + 6 * n ≡ i = omega arith in
      let q' : i + 1 ≡ 93 + 72 * p + 6 * n = omega arith in
      let d = ap (byte s) q' ∙ eqb-true (byte s (93 + 72 * p + 6 * n)) r a.1 in
      record {
        place = n;
        inside = omega (arith, count_is, ltb-true n (byte s (4 + p)) b.0);
        sets =
            ap assigns (instr_is n l)
            ∙ assigns_d (byte s i) (byte s (i + 1)) (byte s (i + 2)) (byte s (i + 3)) (word s (i + 4)) (ap (λ (j : ℕ). is_assigned (field_at (byte s j) 0)) (sym q) ∙ b.1)
            ∙ ap some d;
      }

  set_given : (r : ℕ) → is_set s p r ≡ true → Given (case_of s) p r
  unfolding is_set
  set_given r e =
      ⊎_elim
      (λ m. inl (get_or (case_of s).presets (8 * p + r) 0, cond-true (has (get_or (case_of s).masks p 0) r) _ _ (ap (λ (x : ℕ). has x r) mask_is ∙ m)))
      (λ b. let w = below_cases 12 (λ n. assigns_at s p n r) b in inr (by_instr w.0 r w.1 w.2))
      (or_cases (has (byte s (8 + p)) r) (some_below 12 (λ n. assigns_at s p n r)) e)

  read_given : (i r : ℕ) → i < count_of (case_of s) p → Memᴰ r (reads (instr_at (case_of s) p i)) → Given (case_of s) p r
  read_given i r l m =
      let small : i < 12 = omega (arith, few) in
      let slot : 12 * p + i < 48 = omega arith in
      let a : (12 * p + i) / 12 ≡ p = omega arith in
      let b : (12 * p + i) % 12 ≡ i = omega arith in
      let u : used s ((12 * p + i) / 12) ((12 * p + i) % 12) ≡ true = rw (a, b) (lt-ltb i (byte s (4 + p)) (omega (arith, count_is))) in
      let j = 92 + 6 * (12 * p + i) in
      let q : at s ok (12 * p + i) slot 0 ≡ j = omega arith in
      let here : (k : ℕ) → k < 5 → is_read (field_at (byte s j) k) ≡ true → Given (case_of s) p (byte s (at s ok (12 * p + i) slot (suc k))) = λ k f x. set_given (byte s (at s ok (12 * p + i) slot (suc k))) (ap (λ (z : ℕ). is_set s z (byte s (at s ok (12 * p + i) slot (suc k)))) (sym a) ∙ read_set s ok (12 * p + i) slot u k f (ap (λ (z : ℕ). is_read (field_at (byte s z) k)) q ∙ x)) in
      ⊎_elim
      (λ w. subst (Given (case_of s) p) (sym w.1) (here 1 (lit< tt) w.0))
      (λ w. subst (Given (case_of s) p) (sym w.1) (here 2 (lit< tt) w.0))
      (read_field (byte s j) (byte s (j + 1)) (byte s (j + 2)) (byte s (j + 3)) (word s (j + 4)) r (subst (λ (x : Instr). Memᴰ r (reads x)) (instr_is i small) m))

procs : (c : Case) → Clean (contents c) → c.procs ≤ 4
unfolding contents
procs c ok = few_procs (contents c) ok

-- A register that a used instruction of a sound case reads is given by a preset or assigned by an instruction of its processor.
pub sound_given : (c : Case) → Formed c → Sound c → (p i r : ℕ) → p < c.procs → i < count_of c p → Memᴰ r (reads (instr_at c p i)) → Given c p r
sound_given c f h p i r l =
    let kept = contents-kept c f.counts.0 f.masks.0 f.presets.0 f.memory.0 f.code.0 in
    let ok = clean (contents c) h in
    subst (λ (x : Case). i < count_of x p → Memᴰ r (reads (instr_at x p i)) → Given x p r)
    kept
    (read_given (contents c) ok p (omega (arith, procs c ok)) i r)
