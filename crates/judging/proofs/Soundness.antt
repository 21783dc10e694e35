-- A good case is sound; the case of a draft is proper. Assumes nothing.
use mathlib.Core.Path.{◌≡◌, refl, ap, sym, ◌∙◌, subst}
use mathlib.Core.Logic.{⊎_elim}
use mathlib.Core.Bool.{Bool, true, false, ◌&&◌, ◌||◌, not, false≢true}
use mathlib.Core.List.{List}
use Prim.Native.Nat.{ℕ, zero, suc, ◌+◌, ◌*◌, ◌-◌, ◌/◌, ◌%◌, ◌<◌, ◌≤◌}
use native.Mathlib.Omega.{arith}
use lib.Dec.{eqb, ltb, leb}
use lib.ListN.{get_or, take, get_or-eq_default}
use borrow.Author.Tests.{eqb-true, eqb-false, ltb-true, ltb-false, leb-true, not-true}
use Rattle.words.specs.Small.{each, some_below, or_zero}
use Rattle.words.specs.Sets.{has}
use Rattle.words.specs.Refusals.{first_code_of}
use Rattle.words.proofs.Bools.{decide, or_cases, and_both}
use Rattle.words.proofs.Lists.{each_at, each_length}
use Rattle.cases.specs.declared.Expr.{Expr}
use Rattle.cases.specs.declared.Expr.TheVariants.{Constant, Sum, Difference, Equal}
use Rattle.cases.specs.declared.Instr.{Instr}
use Rattle.cases.specs.declared.Instr.TheVariants.{Empty, Read, Write, Local, Branch, Goto, Acquire, Release}
use Rattle.cases.specs.declared.Slot.{Slot}
use Rattle.cases.specs.declared.Case.{Case}
use Rattle.cases.specs.Case.{count_of, instr_at, slot_in}
use Rattle.cases.specs.Instruction.{instr_bytes}
use Rattle.cases.proofs.Lowest.{no_position}
use Rattle.cases.specs.Formed.{Below, Formed, ExprFits, InstrFits}
use Rattle.cases.specs.Block.{within, proc_at, number_at, byte_at, byte, word, marked, no_proc, no_loc, used, bad3, bad4, zero5, bad5, bad_byte, bad6, bad7, faults, contents}
use Rattle.texts.specs.Lines.{Line}
use Rattle.texts.specs.Reading.{Proper}
use Rattle.judging.specs.Draft.{Draft, low, low_expr, low_instr, label_of, mask_of, case_from}
use Rattle.judging.proofs.Small.{below?}
use Rattle.judging.proofs.Made.{Made}
use Rattle.judging.proofs.Reach.{Good}
use Rattle.judging.proofs.Finished.{Exact, good_of, exact_of, mask_small}
use Rattle.judging.proofs.Instructions.{bad_at, fine}
use Rattle.judging.proofs.Bridge.{Long, count_byte, mask_byte, preset_word, memory_word, proc_byte, loc_byte, slot_byte, last_byte}

nonzero : (b : ℕ) → not (eqb b 0) ≡ true → b ≡ 0 → ⊥
nonzero b h = eqb-false b 0 (not-true (eqb b 0) h)

never : {A : Type 0} → false ≡ true → A
never h = absurd (false≢true h)

any4 : (a b c d : Bool) → (a || b || c || d) ≡ true → (a ≡ true → ⊥) → (b ≡ true → ⊥) → (c ≡ true → ⊥) → (d ≡ true → ⊥) → ⊥
any4 true b c d h p q r s = p refl
any4 false true c d h p q r s = q refl
any4 false false true d h p q r s = r refl
any4 false false false d h p q r s = s h

module _ (c : Case) (good : Good c) (exact : Exact c) where
  long : Long c
  long = record { counts = exact.counts; masks = exact.masks; presets = exact.presets; memory = exact.memory; code = exact.code }

  abbrev s : List ℕ
  s = contents c

  third : (i : ℕ) → i < 510 → bad3 s i ≡ true → ⊥
  unfolding bad3 contents
  third i b h =
      let p = good.procs in
      let l = good.locs in
      any4 (eqb i 0 && (eqb c.procs 0 || ltb 4 c.procs)) (eqb i 1 && (eqb c.locs 0 || ltb 8 c.locs)) (eqb i 2 && ltb 96 0) (eqb i 3 && false) h
      (λ h. ⊎_elim (λ z. omega (arith, eqb-true c.procs 0 z)) (λ z. omega (arith, ltb-true 4 c.procs z)) (or_cases (eqb c.procs 0) (ltb 4 c.procs) (and_both (eqb i 0) _ h).1))
      (λ h. ⊎_elim (λ z. omega (arith, eqb-true c.locs 0 z)) (λ z. omega (arith, ltb-true 8 c.locs z)) (or_cases (eqb c.locs 0) (ltb 8 c.locs) (and_both (eqb i 1) _ h).1))
      (λ h. never (and_both (eqb i 2) _ h).1)
      (λ h. never (and_both (eqb i 3) false h).1)

  range : (a b i : ℕ) → within a b i ≡ true → (a ≤ i) × (i < b)
  range a b i h = let r = and_both (leb a i) (ltb i b) h in (leb-true a i r.0, ltb-true i b r.1)

  fourth : (i : ℕ) → i < 510 → bad4 s i ≡ true → ⊥
  unfolding bad4
  fourth i b h =
      let r = and_both (within 4 8 i) _ h in
      let w = range 4 8 i r.0 in
      let lo = w.0 in
      let hi = w.1 in
      let p = i - 4 in
      let e : 4 + p ≡ i = omega arith in
      let hp : p < 4 = omega arith in
      let same : byte s i ≡ count_of c p = ap (byte s) (sym e) ∙ count_byte c long p hp in
      ⊎_elim
      (λ z. omega (arith, ltb-true 12 (byte s i) z, good.counts p hp))
      (λ z. let q = and_both (no_proc s p) (marked s i) z in nonzero (byte s i) q.1 (same ∙ good.counts_in p hp (omega (arith, leb-true (byte s 0) p q.0, proc_byte c long))))
      (or_cases (ltb 12 (byte s i)) (no_proc s p && marked s i) r.1)

  fifth : (i : ℕ) → i < 510 → bad5 s i ≡ true → ⊥
  unfolding bad5 zero5
  fifth i b h =
      let r = and_both (((within 8 12 i && no_proc s (i - 8)) || (within 12 76 i && (no_proc s ((i - 12) / 16) || not (has (byte s (8 + (i - 12) / 16)) ((i - 12) / 2 % 8))))) || (within 76 92 i && no_loc s ((i - 76) / 2))) (marked s i) h in
      nonzero (byte s i) r.1 (⊎_elim (λ z. ⊎_elim mask preset (or_cases _ _ z)) words (or_cases _ _ r.0))
    where
      mask : (within 8 12 i && no_proc s (i - 8)) ≡ true → byte s i ≡ 0
      mask z =
          let q = and_both (within 8 12 i) (no_proc s (i - 8)) z in
          let w = range 8 12 i q.0 in
          let lo = w.0 in
          let hi = w.1 in
          let e : 8 + (i - 8) ≡ i = omega arith in
          ap (byte s) (sym e) ∙ mask_byte c long (i - 8) (omega arith) ∙ exact.masks_in (i - 8) (omega arith) (omega (arith, leb-true (byte s 0) (i - 8) q.1, proc_byte c long))

      half : (a n : ℕ) → a ≤ i → word s (a + 2 * n) ≡ 0 → (i - a) / 2 ≡ n → byte s i ≡ 0
      half a n h z e = ⊎_elim (λ y. let q : i ≡ a + 2 * n = omega arith in ap (byte s) q ∙ omega arith) (λ y. let q : i ≡ a + 2 * n + 1 = omega arith in ap (byte s) q ∙ omega arith) (below? ((i - a) % 2) 1)

      preset : (within 12 76 i && (no_proc s ((i - 12) / 16) || not (has (byte s (8 + (i - 12) / 16)) ((i - 12) / 2 % 8)))) ≡ true → byte s i ≡ 0
      preset z =
          let q = and_both (within 12 76 i) _ z in
          let w = range 12 76 i q.0 in
          let lo = w.0 in
          let hi = w.1 in
          let p = (i - 12) / 16 in
          let k = (i - 12) / 2 % 8 in
          let hp : p < 4 = omega arith in
          let n = 8 * p + k in
          let unset : has (get_or c.masks p 0) k ≡ false =
          ⊎_elim (λ y. ap (λ (m : ℕ). has m k) (exact.masks_in p hp (omega (arith, leb-true (byte s 0) p y, proc_byte c long))) ∙ Rattle.words.proofs.Sets.has_zero k)
          (λ y. sym (ap (λ (m : ℕ). has m k) (mask_byte c long p hp)) ∙ not-true _ y) (or_cases (no_proc s p) _ q.1) in
          half 12 n lo (preset_word c long n (omega arith) ∙ exact.unset p k hp (omega arith) unset) (omega arith)

      words : (within 76 92 i && no_loc s ((i - 76) / 2)) ≡ true → byte s i ≡ 0
      words z =
          let q = and_both (within 76 92 i) _ z in
          let w = range 76 92 i q.0 in
          let lo = w.0 in
          let hi = w.1 in
          let l = (i - 76) / 2 in
          half 76 l lo (memory_word c long l (omega arith) ∙ good.words_in l (omega arith) (omega (arith, leb-true (byte s 1) l q.1, loc_byte c long))) refl

  -- where position i of the instructions stands
  module _ (i : ℕ) (lo : 92 ≤ i) (hi : i < 380) where
    abbrev p : ℕ
    p = (i - 92) / 72

    abbrev m : ℕ
    m = (i - 92) % 72 / 6

    abbrev j : ℕ
    j = (i - 92) % 6

    at : 92 + 6 * (12 * p + m) + j ≡ i
    at = omega arith

    byte_at_lem : byte s i ≡ get_or (instr_bytes (instr_at c p m)) j 0
    byte_at_lem = ap (byte s) (sym at) ∙ slot_byte c long (12 * p + m) j (omega arith) (omega arith)

    op_at_lem : byte s (i - j) ≡ get_or (instr_bytes (instr_at c p m)) 0 0
    op_at_lem = let e : i - j ≡ 92 + 6 * (12 * p + m) + 0 = omega arith in ap (byte s) e ∙ slot_byte c long (12 * p + m) 0 (omega arith) (omega arith)

    word_at : j ≡ 4 → word s i ≡ get_or (instr_bytes (instr_at c p m)) 4 0 + 256 * get_or (instr_bytes (instr_at c p m)) 5 0
    word_at h =
        let e : i ≡ 92 + 6 * (12 * p + m) + 4 = omega arith in
        let f : i + 1 ≡ 92 + 6 * (12 * p + m) + 5 = omega arith in
        (λ t. byte s (e t) + 256 * byte s (f t)) ∙ (λ t. slot_byte c long (12 * p + m) 4 (omega arith) (omega arith) t + 256 * slot_byte c long (12 * p + m) 5 (omega arith) (omega arith) t)

    not_bad : m < count_of c p → bad_byte s (byte s (i - j)) (byte s (4 + p)) i ≡ false
    unfolding bad_byte
    not_bad h =
        let hp : p < 4 = omega arith in
        let n = count_byte c long p hp in
        (λ t. bad_at (op_at_lem t) (n t) j (byte_at_lem t) (word s i))
        ∙ fine (count_of c p) (word s i) (instr_at c p m) j (good.used p m hp h) (good.labels p m hp h) (omega arith) word_at

  sixth : (i : ℕ) → i < 510 → bad6 s i ≡ true → ⊥
  unfolding bad6
  sixth i b h =
      let r = and_both (within 92 380 i && used s (proc_at i) (number_at i)) _ h in
      let q = and_both (within 92 380 i) (used s (proc_at i) (number_at i)) r.0 in
      let w = range 92 380 i q.0 in
      let lo = w.0 in
      let hi = w.1 in
      let n = count_byte c long (proc_at i) (omega arith) in
      false≢true (sym (not_bad i lo hi (omega (arith, ltb-true (number_at i) (byte s (4 + proc_at i)) q.1))) ∙ r.1)

  seventh : (i : ℕ) → i < 510 → bad7 s i ≡ true → ⊥
  unfolding bad7
  seventh i b h =
      let r = and_both ((within 92 380 i && not (used s (proc_at i) (number_at i))) || within 380 510 i) (marked s i) h in
      nonzero (byte s i) r.1 (⊎_elim unused late (or_cases _ _ r.0))
    where
      empty : (k : ℕ) → get_or (instr_bytes Empty) k 0 ≡ 0
      empty zero = refl
      empty (suc zero) = refl
      empty (suc (suc zero)) = refl
      empty (suc (suc (suc zero))) = refl
      empty (suc (suc (suc (suc zero)))) = refl
      empty (suc (suc (suc (suc (suc zero))))) = refl
      empty (suc (suc (suc (suc (suc (suc k)))))) = refl

      unused : (within 92 380 i && not (used s (proc_at i) (number_at i))) ≡ true → byte s i ≡ 0
      unused z =
          let q = and_both (within 92 380 i) _ z in
          let w = range 92 380 i q.0 in
          let lo = w.0 in
          let hi = w.1 in
          let n = count_byte c long (proc_at i) (omega arith) in
          let u = ltb-false (number_at i) (byte s (4 + proc_at i)) (not-true _ q.1) in
          byte_at_lem i lo hi ∙ ap (λ (x : Instr). get_or (instr_bytes x) (byte_at i) 0) (good.unused (proc_at i) (number_at i) (omega arith) (omega arith) (omega arith)) ∙ empty (byte_at i)

      late : within 380 510 i ≡ true → byte s i ≡ 0
      late z =
          let w = range 380 510 i z in
          let lo = w.0 in
          let e : i ≡ 380 + (i - 380) = omega arith in
          ap (byte s) e ∙ last_byte c long (i - 380) (omega arith)

  none_of : (f : ℕ → Bool) → ((i : ℕ) → i < 510 → f i ≡ true → ⊥) → some_below 510 f ≡ false
  none_of f h = no_position 510 f (λ i b. ⊎_elim (λ e. absurd (h i b e)) (λ e. e) (decide (f i)))

  pub good_shaped : first_code_of (take 5 (faults s)) ≡ 0
  unfolding first_code_of
  good_shaped = rw (none_of (bad3 s) third, none_of (bad4 s) fourth, none_of (bad5 s) fifth, none_of (bad6 s) sixth, none_of (bad7 s) seventh)

-- the declared type's ranges

reg_fits : (r : ℕ) → low r ≡ true → r < 256
reg_fits r h = omega (arith, ltb-true r 8 h)

expr_fits : (e : Expr) → low_expr e ≡ true → ExprFits e
expr_fits (Constant k) h = ltb-true k 65536 h
expr_fits (Sum a b) h = (reg_fits a (and_both (low a) (low b) h).0, reg_fits b (and_both (low a) (low b) h).1)
expr_fits (Difference a b) h = (reg_fits a (and_both (low a) (low b) h).0, reg_fits b (and_both (low a) (low b) h).1)
expr_fits (Equal a b) h = (reg_fits a (and_both (low a) (low b) h).0, reg_fits b (and_both (low a) (low b) h).1)

instr_fits : (x : Instr) → low_instr x ≡ true → label_of x ≤ 12 → InstrFits x
instr_fits Empty h l = tt
instr_fits (Read d a) h l = (reg_fits d (and_both (low d) (low a) h).0, reg_fits a (and_both (low d) (low a) h).1)
instr_fits (Write a b) h l = (reg_fits a (and_both (low a) (low b) h).0, reg_fits b (and_both (low a) (low b) h).1)
instr_fits (Local d e) h l = (reg_fits d (and_both (low d) (low_expr e) h).0, expr_fits e (and_both (low d) (low_expr e) h).1)
instr_fits (Branch a k) h l = (reg_fits a h, omega arith)
instr_fits (Goto k) h l = omega arith
instr_fits (Acquire a) h l = reg_fits a h
instr_fits (Release a) h l = reg_fits a h

each_below : (n m : ℕ) (f : ℕ → ℕ) → 0 < m → ((i : ℕ) → i < n → f i < m) → Below m (each n f)
each_below n m f pos h = record { each = λ i. ⊎_elim (λ b. subst (λ (x : ℕ). x < m) (sym (each_at f n i 0 b)) (h i b)) (λ b. subst (λ (x : ℕ). x < m) (sym (get_or-eq_default (each n f) 0 (subst (λ (x : ℕ). x ≤ i) (sym (each_length f n)) b))) pos) (below? i n) }

module _ (d : Draft) (ls : List Line) (made : Made d ls) (done : d.need ≤ d.next) where
  g : Good (case_from d)
  g = good_of d ls made done

  slot_fits : (n : ℕ) → InstrFits (slot_in (case_from d) n)
  slot_fits n = ⊎_elim low-slot high_slot (below? n 48)
    where
      low-slot : n < 48 → InstrFits (slot_in (case_from d) n)
      low-slot h =
          let p = n / 12 in
          let i = n % 12 in
          let e : 12 * p + i ≡ n = omega arith in
          subst (λ (n : ℕ). InstrFits (slot_in (case_from d) n)) e
          (⊎_elim (λ b. instr_fits (instr_at (case_from d) p i) (g.used p i (omega arith) b) (omega (arith, g.labels p i (omega arith) b, g.counts p (omega arith))))
          (λ b. subst InstrFits (sym (g.unused p i (omega arith) b (omega arith))) tt) (below? i (count_of (case_from d) p)))

      high_slot : 48 ≤ n → InstrFits (slot_in (case_from d) n)
      high_slot h = subst InstrFits (sym (ap (λ (x : Slot). x.instr) (get_or-eq_default (case_from d).code (record { instr = Empty }) (subst (λ (x : ℕ). x ≤ n) (sym (exact_of d ls made).code) h)))) tt

  formed : Formed (case_from d)
  unfolding case_from
  formed =
      record {
        procs = omega (arith, made.procs.1);
        locs = omega (arith, made.locs.1);
        counts = (refl, each_below 4 256 d.counts (omega arith) (λ i h. omega (arith, made.counts_small i)));
        masks = (refl, each_below 4 256 (λ p. mask_of d.presets (8 * p)) (omega arith) (λ i h. mask_small d.presets (8 * i)));
        presets = (refl, each_below 32 65536 (λ n. or_zero (d.presets n)) (omega arith) (λ i h. made.presets_small i));
        memory = (refl, each_below 8 65536 d.words (omega arith) (λ i h. made.words_small i));
        code = (refl, slot_fits);
      }

  -- The case of a draft in which no label is left open.
  pub proper_of : Proper (case_from d)
  proper_of = record { formed = formed; shaped = good_shaped (case_from d) g (exact_of d ls made) }
