-- The case of a draft: its lines are the draft's, it is good; and a case that was reached is the draft's. Assumes nothing.
use mathlib.Core.Path.{◌≡◌, refl, ap, sym, ◌∙◌, subst}
use mathlib.Core.Logic.{⊎_elim}
use mathlib.Core.Bool.{false, cond, false≢true}
use mathlib.Core.List.{List, ◌∷◌, ◌++◌}
use mathlib.Core.Option.{Option, none, some}
use Prim.Native.Nat.{ℕ, zero, suc, ◌+◌, ◌*◌, ◌/◌, ◌%◌, ◌^◌, ◌<◌, ◌≤◌}
use native.Mathlib.Omega.{arith}
use lib.Dec.{eqb}
use lib.ListN.{length, get_or}
use borrow.Author.Tests.{eqb-true, eqb-false}
use Rattle.words.specs.Small.{each, or_zero}
use Rattle.words.specs.Sets.{has}
use Rattle.words.proofs.Bools.{decide, cond-true, cond-false}
use Rattle.words.proofs.Lists.{each_at, each_is, each_same}
use Rattle.cases.specs.declared.Instr.TheVariants.{Empty}
use Rattle.cases.specs.declared.Slot.{Slot}
use Rattle.cases.specs.declared.Case.{Case}
use Rattle.cases.specs.Case.{count_of, instr_at, slot_in, preset_of, word_of}
use Rattle.texts.specs.Lines.{Line, head, op, mem_line, reg_line, lines_of}
use Rattle.judging.specs.Draft.{Draft, label_of, low_instr, marks, bit_at, mask_of, case_from, mem_at, reg_at, op_at}
use Rattle.judging.proofs.Small.{below?, same_all}
use Rattle.judging.proofs.Made.{Made}
use Rattle.judging.proofs.Reach.{Good, Reached}

-- eight bits as one number

one : (o : Option ℕ) → marks o ≤ 1
one none = omega arith
one (some v) = omega arith

eight_of : (x y₁ y₂ y₃ y₄ y₅ y₆ y₇ a b c d e f g h : ℕ) → x ≡ 2 * y₁ + a → y₁ ≡ 2 * y₂ + b → y₂ ≡ 2 * y₃ + c → y₃ ≡ 2 * y₄ + d → y₄ ≡ 2 * y₅ + e → y₅ ≡ 2 * y₆ + f → y₆ ≡ 2 * y₇ + g → y₇ ≡ h → x ≡ a + (2 * b + (4 * c + (8 * d + (16 * e + (32 * f + (64 * g + 128 * h))))))
eight_of x y₁ y₂ y₃ y₄ y₅ y₆ y₇ a b c d e f g h q₀ q₁ q₂ q₃ q₄ q₅ q₆ q₇ = omega arith

eight : (x a b c d e f g h : ℕ) → x < 256 → a ≡ x % 2 → b ≡ x / 2 % 2 → c ≡ x / 4 % 2 → d ≡ x / 8 % 2 → e ≡ x / 16 % 2 → f ≡ x / 32 % 2 → g ≡ x / 64 % 2 → h ≡ x / 128 % 2 → x ≡ a + (2 * b + (4 * c + (8 * d + (16 * e + (32 * f + (64 * g + 128 * h))))))
eight x a b c d e f g h small p₀ p₁ p₂ p₃ p₄ p₅ p₆ p₇ =
    let q₀ : x ≡ 2 * (x / 2) + a = omega arith in
    let q₁ : x / 2 ≡ 2 * (x / 4) + b = omega arith in
    let q₂ : x / 4 ≡ 2 * (x / 8) + c = omega arith in
    let q₃ : x / 8 ≡ 2 * (x / 16) + d = omega arith in
    let q₄ : x / 16 ≡ 2 * (x / 32) + e = omega arith in
    let q₅ : x / 32 ≡ 2 * (x / 64) + f = omega arith in
    let q₆ : x / 64 ≡ 2 * (x / 128) + g = omega arith in
    let q₇ : x / 128 ≡ h = omega arith in
    eight_of x (x / 2) (x / 4) (x / 8) (x / 16) (x / 32) (x / 64) (x / 128) a b c d e f g h q₀ q₁ q₂ q₃ q₄ q₅ q₆ q₇

module _ (f : ℕ → Option ℕ) (m : ℕ) where
  pub mask_bit : (k : ℕ) → k < 8 → mask_of f m / 2 ^ k % 2 ≡ bit_at f (m + k)
  mask_bit k h = go k h
    where
      b₀ : bit_at f m ≤ 1
      b₀ = one (f m)

      b₁ : bit_at f (m + 1) ≤ 1
      b₁ = one (f (m + 1))

      b₂ : bit_at f (m + 2) ≤ 1
      b₂ = one (f (m + 2))

      b₃ : bit_at f (m + 3) ≤ 1
      b₃ = one (f (m + 3))

      b₄ : bit_at f (m + 4) ≤ 1
      b₄ = one (f (m + 4))

      b₅ : bit_at f (m + 5) ≤ 1
      b₅ = one (f (m + 5))

      b₆ : bit_at f (m + 6) ≤ 1
      b₆ = one (f (m + 6))

      b₇ : bit_at f (m + 7) ≤ 1
      b₇ = one (f (m + 7))

      start : bit_at f m ≡ bit_at f (m + 0)
      start = ap (bit_at f) (omega arith)

      go : (k : ℕ) → k < 8 → mask_of f m / 2 ^ k % 2 ≡ bit_at f (m + k)
      go zero h = omega (arith, b₀, b₁, b₂, b₃, b₄, b₅, b₆, b₇, start)
      go (suc zero) h = omega (arith, b₀, b₁, b₂, b₃, b₄, b₅, b₆, b₇)
      go (suc (suc zero)) h = omega (arith, b₀, b₁, b₂, b₃, b₄, b₅, b₆, b₇)
      go (suc (suc (suc zero))) h = omega (arith, b₀, b₁, b₂, b₃, b₄, b₅, b₆, b₇)
      go (suc (suc (suc (suc zero)))) h = omega (arith, b₀, b₁, b₂, b₃, b₄, b₅, b₆, b₇)
      go (suc (suc (suc (suc (suc zero))))) h = omega (arith, b₀, b₁, b₂, b₃, b₄, b₅, b₆, b₇)
      go (suc (suc (suc (suc (suc (suc zero)))))) h = omega (arith, b₀, b₁, b₂, b₃, b₄, b₅, b₆, b₇)
      go (suc (suc (suc (suc (suc (suc (suc zero))))))) h = omega (arith, b₀, b₁, b₂, b₃, b₄, b₅, b₆, b₇)
      go (suc (suc (suc (suc (suc (suc (suc (suc k)))))))) h = absurd (omega arith)

  -- a number below 256 by its bits
  pub mask_is : (x : ℕ) → x < 256 → ((k : ℕ) → k < 8 → bit_at f (m + k) ≡ x / 2 ^ k % 2) → x ≡ mask_of f m
  mask_is x h bits =
      let start : bit_at f m ≡ bit_at f (m + 0) = ap (bit_at f) (omega arith) in
      let e₀ : bit_at f m ≡ x % 2 = start ∙ bits 0 (omega arith) ∙ omega arith in
      let e₁ : bit_at f (m + 1) ≡ x / 2 % 2 = bits 1 (omega arith) in
      let e₂ : bit_at f (m + 2) ≡ x / 4 % 2 = bits 2 (omega arith) in
      let e₃ : bit_at f (m + 3) ≡ x / 8 % 2 = bits 3 (omega arith) in
      let e₄ : bit_at f (m + 4) ≡ x / 16 % 2 = bits 4 (omega arith) in
      let e₅ : bit_at f (m + 5) ≡ x / 32 % 2 = bits 5 (omega arith) in
      let e₆ : bit_at f (m + 6) ≡ x / 64 % 2 = bits 6 (omega arith) in
      let e₇ : bit_at f (m + 7) ≡ x / 128 % 2 = bits 7 (omega arith) in
      eight x (bit_at f m) (bit_at f (m + 1)) (bit_at f (m + 2)) (bit_at f (m + 3)) (bit_at f (m + 4)) (bit_at f (m + 5)) (bit_at f (m + 6)) (bit_at f (m + 7)) h e₀ e₁ e₂ e₃ e₄ e₅ e₆ e₇

  pub mask_small : mask_of f m < 256
  mask_small = omega (arith, one (f m), one (f (m + 1)), one (f (m + 2)), one (f (m + 3)), one (f (m + 4)), one (f (m + 5)), one (f (m + 6)), one (f (m + 7)))

shown : (o : Option ℕ) → cond (eqb (marks o) 1) (some (or_zero o)) none ≡ o
shown none = refl
shown (some v) = refl

marked : (x v : ℕ) → marks (cond (eqb (x % 2) 1) (some v) none) ≡ x % 2
marked x v = ⊎_elim (λ h. ap marks (cond-true (eqb (x % 2) 1) (some v) none h) ∙ sym (eqb-true (x % 2) 1 h)) (λ h. ap marks (cond-false (eqb (x % 2) 1) (some v) none h) ∙ omega (arith, eqb-false (x % 2) 1 h)) (decide (eqb (x % 2) 1))

module _ (d : Draft) where
  pub word_of_lem : (l : ℕ) → l < 8 → word_of (case_from d) l ≡ d.words l
  unfolding case_from
  word_of_lem l h = each_at d.words 8 l 0 h

  pub preset_of_lem : (p k : ℕ) → p < 4 → k < 8 → preset_of (case_from d) p k ≡ d.presets (8 * p + k)
  unfolding case_from
  preset_of_lem p k h b =
      let e = each_at (λ p. mask_of d.presets (8 * p)) 4 p 0 h in
      let bit = ap (λ (m : ℕ). m / 2 ^ k % 2) e ∙ mask_bit d.presets (8 * p) k b in
      let v = each_at (λ n. or_zero (d.presets n)) 32 (8 * p + k) 0 (omega arith) in
      (λ t. cond (eqb (bit t) 1) (some (v t)) none) ∙ shown (d.presets (8 * p + k))

  pub count_of_lem : (p : ℕ) → p < 4 → count_of (case_from d) p ≡ d.counts p
  unfolding case_from
  count_of_lem p h = each_at d.counts 4 p 0 h

  pub slot_of : (n : ℕ) → n < 48 → slot_in (case_from d) n ≡ d.instrs n
  unfolding case_from
  slot_of n h = ap (λ (s : Slot). s.instr) (each_at (λ n. record { instr = d.instrs n }) 48 n (record { instr = Empty }) h)

  module _ (ls : List Line) (made : Made d ls) where
    pub lines_of_lem : (b : Option ℕ) → lines_of (case_from d) b ≡ head d.procs d.locs b ∷ ls
    unfolding case_from
    lines_of_lem b =
        let m = same_all (mem_at d) (λ l. mem_line l (word_of (case_from d) l)) 0 8 (λ q a h. ap (mem_line q) (word_of_lem q (omega arith))) in
        let r = same_all (reg_at d) (λ n. reg_line (n / 8) (n % 8) (preset_of (case_from d) (n / 8) (n % 8))) 0 32 (λ q a h. ap (reg_line (q / 8) (q % 8)) (preset_of_lem (q / 8) (q % 8) (omega arith) (omega arith) ∙ ap d.presets (omega arith))) in
        let o = same_all (op_at d) (λ p. each (count_of (case_from d) p) (λ i. op p (instr_at (case_from d) p i))) 0 4 (λ q a h.
        ap (λ (n : ℕ). each n (λ i. op q (instr_at (case_from d) q i))) (count_of_lem q (omega arith))
        ∙ each_same (λ i. op q (instr_at (case_from d) q i)) (λ i. op q (d.instrs (12 * q + i))) (d.counts q) (λ i l. let s = made.counts_small q in ap (op q) (slot_of (12 * q + i) (omega arith)))) in
        (λ t. head d.procs d.locs b ∷ (m t ++ (r t ++ o t))) ∙ ap (λ (t : List Line). head d.procs d.locs b ∷ t) made.lines

    reached_label : d.need ≤ d.next → (p i : ℕ) → i < d.counts p → label_of (d.instrs (12 * p + i)) ≤ d.counts p
    reached_label done p i h = ⊎_elim (λ z. z) (λ z. let b = z.begun in let r = z.room in let n = z.near in omega (arith, made.counts p r)) (made.labels p i h)

    pub good_of : d.need ≤ d.next → Good (case_from d)
    unfolding case_from
    good_of done =
        record {
          procs = made.procs;
          locs = made.locs;
          words = λ l h. omega (arith, word_of_lem l h, made.words_small l);
          words_in = λ l h b. word_of_lem l h ∙ made.words_in l b;
          presets = λ p k h b. subst (λ (o : Option ℕ). or_zero o < 65536) (sym (preset_of_lem p k h b)) (made.presets_small (8 * p + k));
          presets_in = λ p k h b a. preset_of_lem p k h b ∙ made.presets_in (8 * p + k) (omega arith);
          counts = λ p h. omega (arith, count_of_lem p h, made.counts_small p);
          counts_in = λ p h a. count_of_lem p h ∙ made.counts_in p a;
          used = λ p i h b. let c = count_of_lem p h in let s = made.counts_small p in ap low_instr (slot_of (12 * p + i) (omega arith)) ∙ made.used p i (omega arith);
          labels = λ p i h b. let c = count_of_lem p h in let s = made.counts_small p in let e = ap label_of (slot_of (12 * p + i) (omega arith)) in omega (arith, reached_label done p i (omega arith));
          unused = λ p i h b a. let c = count_of_lem p h in slot_of (12 * p + i) (omega arith) ∙ made.unused p i (omega arith) a;
        }

-- what else a record says
pub record Exact (c : Case) : Type 0 where
  pub counts : length c.counts ≡ 4
  pub masks : length c.masks ≡ 4
  pub masks_small : (p : ℕ) → p < 4 → get_or c.masks p 0 < 256
  pub masks_in : (p : ℕ) → p < 4 → c.procs ≤ p → get_or c.masks p 0 ≡ 0
  pub presets : length c.presets ≡ 32
  pub unset : (p k : ℕ) → p < 4 → k < 8 → has (get_or c.masks p 0) k ≡ false → get_or c.presets (8 * p + k) 0 ≡ 0
  pub memory : length c.memory ≡ 8
  pub code : length c.code ≡ 48

module _ (c : Case) (good : Good c) (exact : Exact c) (bound : Option ℕ) (r : Reached c good bound) (ls : List Line) (made : Made r.last ls) where
  abbrev d : Draft
  d = r.last

  count_same : (p : ℕ) → p < 4 → get_or c.counts p 0 ≡ d.counts p
  count_same p h = sym (r.counts p h)

  preset_same : (p k : ℕ) → p < 4 → k < 8 → d.presets (8 * p + k) ≡ preset_of c p k
  preset_same p k h b =
      let a : (8 * p + k) / 8 ≡ p = omega arith in
      let e : (8 * p + k) % 8 ≡ k = omega arith in
      r.presets (8 * p + k) (omega arith) ∙ (λ t. preset_of c (a t) (e t))

  mask_same : (p : ℕ) → p < 4 → get_or c.masks p 0 ≡ mask_of d.presets (8 * p)
  mask_same p h = mask_is d.presets (8 * p) (get_or c.masks p 0) (exact.masks_small p h) (λ k b. ap marks (preset_same p k h b) ∙ marked (get_or c.masks p 0 / 2 ^ k) (get_or c.presets (8 * p + k) 0))

  value_same : (n : ℕ) → n < 32 → get_or c.presets n 0 ≡ or_zero (d.presets n)
  value_same n h =
      let p = n / 8 in
      let k = n % 8 in
      let e : 8 * p + k ≡ n = omega arith in
      let v = get_or c.presets (8 * p + k) 0 in
      let t = has (get_or c.masks p 0) k in
      ap (λ (n : ℕ). get_or c.presets n 0) (sym e)
      ∙ ⊎_elim (λ y. sym (ap or_zero (cond-true t (some v) none y))) (λ y. exact.unset p k (omega arith) (omega arith) y ∙ sym (ap or_zero (cond-false t (some v) none y))) (decide t)
      ∙ ap or_zero (sym (r.presets n h))

  slot_same : (n : ℕ) → n < 48 → get_or c.code n (record { instr = Empty }) ≡ record { instr = d.instrs n }
  slot_same n h =
      let p = n / 12 in
      let i = n % 12 in
      let e : 12 * p + i ≡ n = omega arith in
      let same : instr_at c p i ≡ d.instrs (12 * p + i) = ⊎_elim (λ b. sym (r.instrs p i (omega arith) b)) (λ b. good.unused p i (omega arith) b (omega arith) ∙ sym (made.unused p i (omega (arith, r.counts p (omega arith))) (omega arith))) (below? i (count_of c p)) in
      let whole : slot_in c n ≡ d.instrs n = subst (λ (n : ℕ). slot_in c n ≡ d.instrs n) e same in
      λ t. record { instr = whole t }

  -- The draft that the case's lines lead to is the case.
  pub case_of : case_from d ≡ c
  unfolding case_from
  case_of =
      let e₁ = each_is d.counts 0 c.counts 4 exact.counts count_same in
      let e₂ = each_is (λ p. mask_of d.presets (8 * p)) 0 c.masks 4 exact.masks mask_same in
      let e₃ = each_is (λ n. or_zero (d.presets n)) 0 c.presets 32 exact.presets value_same in
      let e₄ = each_is d.words 0 c.memory 8 exact.memory (λ l h. sym (r.words l h)) in
      let e₅ = each_is (λ n. record { instr = d.instrs n }) (record { instr = Empty }) c.code 48 exact.code slot_same in
      sym (λ t. record { procs = sym r.procs t; locs = sym r.locs t; counts = e₁ t; masks = e₂ t; presets = e₃ t; memory = e₄ t; code = e₅ t })

-- the draft's case says it too
pub exact_of : (d : Draft) (ls : List Line) → Made d ls → Exact (case_from d)
unfolding case_from
exact_of d ls made =
    record {
      counts = refl;
      masks = refl;
      masks_small = λ p h. subst (λ (m : ℕ). m < 256) (sym (mask_at p h)) (mask_small d.presets (8 * p));
      masks_in = λ p h b. mask_at p h ∙ mask_none p b;
      presets = refl;
      unset = λ p k h b e. each_at (λ n. or_zero (d.presets n)) 32 (8 * p + k) 0 (omega arith) ∙ unset_zero (d.presets (8 * p + k)) (sym (ap (λ (x : ℕ). eqb x 1) (ap (λ (m : ℕ). m / 2 ^ k % 2) (mask_at p h) ∙ mask_bit d.presets (8 * p) k b)) ∙ e);
      memory = refl;
      code = refl;
    }
  where
    mask_at : (p : ℕ) → p < 4 → get_or (each 4 (λ p. mask_of d.presets (8 * p))) p 0 ≡ mask_of d.presets (8 * p)
    mask_at p h = each_at (λ p. mask_of d.presets (8 * p)) 4 p 0 h

    mask_none : (p : ℕ) → d.procs ≤ p → mask_of d.presets (8 * p) ≡ 0
    mask_none p b =
        let z : (k : ℕ) → marks (d.presets (8 * p + k)) ≡ 0 = λ k. ap marks (made.presets_in (8 * p + k) (omega arith)) in
        let y : marks (d.presets (8 * p)) ≡ 0 = ap marks (made.presets_in (8 * p) (omega arith)) in
        omega (arith, y, z 1, z 2, z 3, z 4, z 5, z 6, z 7)

    unset_zero : (o : Option ℕ) → eqb (marks o) 1 ≡ false → or_zero o ≡ 0
    unset_zero none h = refl
    unset_zero (some v) h = absurd (false≢true (sym h))
