-- The lines of a good case are accepted one after the other, and the draft becomes the case. Assumes nothing.
use mathlib.Core.Path.{◌≡◌, refl, ap, sym, ◌∙◌, subst}
use mathlib.Core.Logic.{◌⊎◌, inl, inr, ⊎_elim}
use mathlib.Core.Bool.{true, ◌||◌}
use mathlib.Core.List.{[], ◌++◌, map}
use mathlib.Core.Option.{Option, none, some}
use Prim.Native.Nat.{ℕ, zero, suc, ◌+◌, ◌*◌, ◌-◌, ◌/◌, ◌%◌, ◌<◌, ◌≤◌, max}
use native.Mathlib.Omega.{arith}
use lib.Dec.{ltb, leb}
use borrow.Author.Tests.{lt-ltb, le-leb}
use Rattle.words.specs.Small.{each, counting, concat_map, or_zero}
use Rattle.words.proofs.Bools.{or_left, or_right, cond-true, put_same}
use Rattle.cases.specs.declared.Instr.{Instr}
use Rattle.cases.specs.declared.Instr.TheVariants.{Empty}
use Rattle.cases.specs.declared.Case.{Case}
use Rattle.cases.specs.Case.{count_of, instr_at, preset_of, word_of}
use Rattle.texts.specs.Lines.{mem, reg, op, mem_line, reg_line, mem_lines, reg_lines, op_lines}
use Rattle.judging.specs.Draft.{Draft, fresh, with_mem, with_reg, with_op, mem_ok, reg_ok, op_ok, from, label_of, low_instr, step, run}
use Rattle.judging.proofs.Small.{none-some, put_case, make4, make5, same?, below?}
use Rattle.judging.proofs.Runs.{run_then, run_one}

-- what is asked of a case
pub record Good (c : Case) : Type 0 where
  pub procs : (1 ≤ c.procs) × (c.procs ≤ 4)
  pub locs : (1 ≤ c.locs) × (c.locs ≤ 8)
  pub words : (l : ℕ) → l < 8 → word_of c l < 65536
  pub words_in : (l : ℕ) → l < 8 → c.locs ≤ l → word_of c l ≡ 0
  pub presets : (p k : ℕ) → p < 4 → k < 8 → or_zero (preset_of c p k) < 65536
  pub presets_in : (p k : ℕ) → p < 4 → k < 8 → c.procs ≤ p → preset_of c p k ≡ none
  pub counts : (p : ℕ) → p < 4 → count_of c p ≤ 12
  pub counts_in : (p : ℕ) → p < 4 → c.procs ≤ p → count_of c p ≡ 0
  pub used : (p i : ℕ) → p < 4 → i < count_of c p → low_instr (instr_at c p i) ≡ true
  pub labels : (p i : ℕ) → p < 4 → i < count_of c p → label_of (instr_at c p i) ≤ count_of c p
  pub unused : (p i : ℕ) → p < 4 → count_of c p ≤ i → i < 12 → instr_at c p i ≡ Empty

module _ (c : Case) (good : Good c) (bound : Option ℕ) where
  -- words below k are read
  record Words (d : Draft) (k : ℕ) : Type 0 where
    procs : d.procs ≡ c.procs
    locs : d.locs ≡ c.locs
    next : d.next ≤ k
    need : d.need ≤ d.next
    words : (l : ℕ) → l < k → d.words l ≡ word_of c l
    rest : (l : ℕ) → k ≤ l → d.words l ≡ 0
    presets : (n : ℕ) → d.presets n ≡ none
    counts : (p : ℕ) → d.counts p ≡ 0

  one_word : (d : Draft) (k : ℕ) → k < 8 → Words d k → (e : Draft) × (run d (mem_line k (word_of c k)) ≡ some e) × Words e (suc k)
  unfolding run
  one_word d k b s = go (word_of c k) refl
    where
      go : (v : ℕ) → word_of c k ≡ v → (e : Draft) × (run d (mem_line k v) ≡ some e) × Words e (suc k)
      go zero q = (
        d,
        refl,
        record {
          procs = s.procs;
          locs = s.locs;
          next = omega (arith, s.next);
          need = s.need;
          words = λ l h. ⊎_elim (λ e. s.rest l (omega arith) ∙ sym q ∙ ap (word_of c) (sym e)) (λ e. s.words l (omega arith)) (same? l k);
          rest = λ l h. s.rest l (omega arith);
          presets = s.presets;
          counts = s.counts;
        },
      )
      go (suc v) q =
          let inside : k < c.locs = ⊎_elim (λ h. h) (λ h. absurd (omega (arith, good.words_in k b h))) (below? k c.locs) in
          let small = good.words k b in
          let ok : mem_ok d k (suc v) ≡ true = make4 _ _ _ _ (le-leb d.next k s.next) (lt-ltb k d.locs (omega (arith, s.locs))) (lt-ltb 0 (suc v) (omega arith)) (lt-ltb (suc v) 65536 (omega arith)) in (
            with_mem d k (suc v),
            run_one d (with_mem d k (suc v)) (mem k (suc v)) [] (cond-true (mem_ok d k (suc v)) (some (with_mem d k (suc v))) none ok),
            record {
              procs = s.procs;
              locs = s.locs;
              next = omega arith;
              need = omega (arith, s.need, s.next);
              words = λ l h. put_case (λ (w : ℕ). w ≡ word_of c l) d.words k (suc v) l (λ e. sym q ∙ ap (word_of c) (sym e)) (λ e. s.words l (omega arith));
              rest = λ l h. put_case (λ (w : ℕ). w ≡ 0) d.words k (suc v) l (λ e. absurd (omega arith)) (λ e. s.rest l (omega arith));
              presets = s.presets;
              counts = s.counts;
            },
          )

  words_sweep : (n k : ℕ) (d : Draft) → k + n ≡ 8 → Words d k → (e : Draft) × (run d (concat_map (λ l. mem_line l (word_of c l)) (counting k n)) ≡ some e) × Words e 8
  unfolding run
  words_sweep zero k d h s = (d, refl, subst (Words d) (omega arith) s)
  words_sweep (suc n) k d h s =
      let one = one_word d k (omega arith) s in
      let more = words_sweep n (suc k) one.0 (omega arith) one.2 in
      (more.0, run_then d one.0 (mem_line k (word_of c k)) _ one.1 ∙ more.1, more.2)

  -- presets below k are read
  record Regs (d : Draft) (k : ℕ) : Type 0 where
    procs : d.procs ≡ c.procs
    locs : d.locs ≡ c.locs
    next : d.next ≤ 8 + k
    need : d.need ≤ d.next
    words : (l : ℕ) → l < 8 → d.words l ≡ word_of c l
    presets : (n : ℕ) → n < k → d.presets n ≡ preset_of c (n / 8) (n % 8)
    rest : (n : ℕ) → k ≤ n → d.presets n ≡ none
    counts : (p : ℕ) → d.counts p ≡ 0

  one_reg : (d : Draft) (k : ℕ) → k < 32 → Regs d k → (e : Draft) × (run d (reg_line (k / 8) (k % 8) (preset_of c (k / 8) (k % 8))) ≡ some e) × Regs e (suc k)
  unfolding run
  one_reg d k b s = go (preset_of c (k / 8) (k % 8)) refl
    where
      go : (v : Option ℕ) → preset_of c (k / 8) (k % 8) ≡ v → (e : Draft) × (run d (reg_line (k / 8) (k % 8) v) ≡ some e) × Regs e (suc k)
      go none q = (
        d,
        refl,
        record {
          procs = s.procs;
          locs = s.locs;
          next = omega (arith, s.next);
          need = s.need;
          words = s.words;
          presets = λ n h. ⊎_elim (λ e. s.rest n (omega arith) ∙ sym q ∙ ap (λ (n : ℕ). preset_of c (n / 8) (n % 8)) (sym e)) (λ e. s.presets n (omega arith)) (same? n k);
          rest = λ n h. s.rest n (omega arith);
          counts = s.counts;
        },
      )
      go (some v) q =
          let p = k / 8 in
          let r = k % 8 in
          let m = 8 * p + r in
          let me : m ≡ k = omega arith in
          let inside : p < c.procs = ⊎_elim (λ h. h) (λ h. absurd (none-some (sym (good.presets_in p r (omega arith) (omega arith) h) ∙ q))) (below? p c.procs) in
          let small : v < 65536 = subst (λ (o : Option ℕ). or_zero o < 65536) q (good.presets p r (omega arith) (omega arith)) in
          let ok : reg_ok d p r v ≡ true = make4 _ _ _ _ (le-leb d.next (8 + m) (omega (arith, s.next))) (lt-ltb p d.procs (omega (arith, s.procs))) (lt-ltb r 8 (omega arith)) (lt-ltb v 65536 small) in (
            with_reg d m v,
            run_one d (with_reg d m v) (reg p r v) [] (cond-true (reg_ok d p r v) (some (with_reg d m v)) none ok),
            record {
              procs = s.procs;
              locs = s.locs;
              next = omega arith;
              need = omega (arith, s.need, s.next);
              words = s.words;
              presets = λ n h. put_case (λ (w : Option ℕ). w ≡ preset_of c (n / 8) (n % 8)) d.presets m (some v) n (λ e. sym q ∙ ap (λ (n : ℕ). preset_of c (n / 8) (n % 8)) (omega arith)) (λ e. s.presets n (omega arith));
              rest = λ n h. put_case (λ (w : Option ℕ). w ≡ none) d.presets m (some v) n (λ e. absurd (omega arith)) (λ e. s.rest n (omega arith));
              counts = s.counts;
            },
          )

  regs_sweep : (n k : ℕ) (d : Draft) → k + n ≡ 32 → Regs d k → (e : Draft) × (run d (concat_map (λ n. reg_line (n / 8) (n % 8) (preset_of c (n / 8) (n % 8))) (counting k n)) ≡ some e) × Regs e 32
  unfolding run
  regs_sweep zero k d h s = (d, refl, subst (Regs d) (omega arith) s)
  regs_sweep (suc n) k d h s =
      let one = one_reg d k (omega arith) s in
      let more = regs_sweep n (suc k) one.0 (omega arith) one.2 in
      (more.0, run_then d one.0 (reg_line (k / 8) (k % 8) (preset_of c (k / 8) (k % 8))) _ one.1 ∙ more.1, more.2)

  -- instructions below i of processor p are read, and all of those before it
  record Ops (d : Draft) (p i : ℕ) : Type 0 where
    procs : d.procs ≡ c.procs
    locs : d.locs ≡ c.locs
    place : ((i ≡ 0) × (d.next ≤ from p) × (d.need ≤ d.next)) ⊎ ((0 < i) × (d.next ≡ from p + i) × (d.need ≤ from p + count_of c p))
    words : (l : ℕ) → l < 8 → d.words l ≡ word_of c l
    presets : (n : ℕ) → n < 32 → d.presets n ≡ preset_of c (n / 8) (n % 8)
    counts : (q : ℕ) → q < p → d.counts q ≡ count_of c q
    count : d.counts p ≡ i
    rest : (q : ℕ) → p < q → d.counts q ≡ 0
    instrs : (q j : ℕ) → q < p → j < count_of c q → d.instrs (12 * q + j) ≡ instr_at c q j
    own : (j : ℕ) → j < i → d.instrs (12 * p + j) ≡ instr_at c p j

  one_op : (d : Draft) (p i : ℕ) → p < 4 → i < count_of c p → Ops d p i → (e : Draft) × (step d (op p (instr_at c p i)) ≡ some e) × Ops e p (suc i)
  one_op d p i b h s =
      let x = instr_at c p i in
      let j = d.next - from p in
      let je : j ≡ i = ⊎_elim (λ z. let u = z.0 in let w = z.1 in omega arith) (λ z. let w = z.1 in omega arith) s.place in
      let few = good.counts p b in
      let lab = good.labels p i b h in
      let inside : p < c.procs = ⊎_elim (λ h. h) (λ z. absurd (omega (arith, good.counts_in p b z))) (below? p c.procs) in
      let shut : (ltb 0 j || leb d.need d.next) ≡ true = ⊎_elim (λ z. or_right (ltb 0 j) _ (le-leb d.need d.next z.2)) (λ z. let u = z.0 in or_left (ltb 0 j) _ (lt-ltb 0 j (omega arith))) s.place in
      let ok : op_ok d p j x ≡ true = make5 _ _ _ _ _ (lt-ltb p d.procs (omega (arith, s.procs))) (lt-ltb j 12 (omega arith)) (good.used p i b h) (le-leb (label_of x) 12 (omega arith)) shut in
      let max_need : max d.need (from p + label_of x) ≤ from p + count_of c p = ⊎_elim (λ z. let u = z.1 in let w = z.2 in omega arith) (λ z. let w = z.2 in omega arith) s.place in (
        with_op d p j x,
        cond-true (op_ok d p j x) (some (with_op d p j x)) none ok,
        record {
          procs = s.procs;
          locs = s.locs;
          place = inr (omega arith, omega arith, max_need);
          words = s.words;
          presets = s.presets;
          counts = λ q l. put_case (λ (n : ℕ). n ≡ count_of c q) d.counts p (suc j) q (λ e. absurd (omega arith)) (λ e. s.counts q l);
          count = put_same d.counts p p (suc j) refl ∙ omega arith;
          rest = λ q l. put_case (λ (n : ℕ). n ≡ 0) d.counts p (suc j) q (λ e. absurd (omega arith)) (λ e. s.rest q l);
          instrs = λ q k l m. put_case (λ (y : Instr). y ≡ instr_at c q k) d.instrs (12 * p + j) x (12 * q + k) (λ e. absurd (omega (arith, good.counts q (omega arith)))) (λ e. s.instrs q k l m);
          own = λ k l. put_case (λ (y : Instr). y ≡ instr_at c p k) d.instrs (12 * p + j) x (12 * p + k) (λ e. let ke : i ≡ k = omega arith in ap (instr_at c p) ke) (λ e. s.own k (omega arith));
        },
      )

  proc_sweep : (n i p : ℕ) (d : Draft) → p < 4 → i + n ≡ count_of c p → Ops d p i → (e : Draft) × (run d (map (λ i. op p (instr_at c p i)) (counting i n)) ≡ some e) × Ops e p (count_of c p)
  unfolding run
  proc_sweep zero i p d b h s = (d, refl, subst (Ops d p) (omega arith) s)
  proc_sweep (suc n) i p d b h s =
      let one = one_op d p i b (omega arith) s in
      let more = proc_sweep n (suc i) p one.0 b (omega arith) one.2 in
      (more.0, run_one d one.0 (op p (instr_at c p i)) (map (λ i. op p (instr_at c p i)) (counting (suc i) n)) one.1 ∙ more.1, more.2)

  next_proc : (d : Draft) (p : ℕ) → p < 4 → Ops d p (count_of c p) → Ops d (suc p) 0
  next_proc d p b s =
      let few = good.counts p b in
      record {
        procs = s.procs;
        locs = s.locs;
        place = inl (refl, ⊎_elim (λ z. let w = z.1 in omega arith) (λ z. let w = z.1 in omega arith) s.place, ⊎_elim (λ z. z.2) (λ z. let w = z.1 in let u = z.2 in omega arith) s.place);
        words = s.words;
        presets = s.presets;
        counts = λ q l. ⊎_elim (λ e. subst (λ (k : ℕ). d.counts k ≡ count_of c k) (sym e) s.count) (λ e. s.counts q (omega arith)) (same? q p);
        count = s.rest (suc p) (omega arith);
        rest = λ q l. s.rest q (omega arith);
        instrs = λ q j l m. ⊎_elim (λ e. subst (λ (k : ℕ). d.instrs (12 * k + j) ≡ instr_at c k j) (sym e) (s.own j (subst (λ (k : ℕ). j < count_of c k) e m))) (λ e. s.instrs q j (omega arith) m) (same? q p);
        own = λ j l. absurd (omega arith);
      }

  procs_sweep : (n p : ℕ) (d : Draft) → p + n ≡ 4 → Ops d p 0 → (e : Draft) × (run d (concat_map (λ p. each (count_of c p) (λ i. op p (instr_at c p i))) (counting p n)) ≡ some e) × Ops e 4 0
  unfolding run
  procs_sweep zero p d h s = (d, refl, subst (λ (k : ℕ). Ops d k 0) (omega arith) s)
  procs_sweep (suc n) p d h s =
      let one = proc_sweep (count_of c p) 0 p d (omega arith) (omega arith) s in
      let more = procs_sweep n (suc p) one.0 (omega arith) (next_proc one.0 p (omega arith) one.2) in
      (more.0, run_then d one.0 (each (count_of c p) (λ i. op p (instr_at c p i))) _ one.1 ∙ more.1, more.2)

  -- The lines of the case are accepted, no label is left open, and the draft has what the case has.
  pub record Reached : Type 0 where
    pub last : Draft
    pub runs : run (fresh c.procs c.locs bound) (mem_lines c ++ (reg_lines c ++ op_lines c)) ≡ some last
    pub done : last.need ≤ last.next
    pub procs : last.procs ≡ c.procs
    pub locs : last.locs ≡ c.locs
    pub words : (l : ℕ) → l < 8 → last.words l ≡ word_of c l
    pub presets : (n : ℕ) → n < 32 → last.presets n ≡ preset_of c (n / 8) (n % 8)
    pub counts : (q : ℕ) → q < 4 → last.counts q ≡ count_of c q
    pub instrs : (q j : ℕ) → q < 4 → j < count_of c q → last.instrs (12 * q + j) ≡ instr_at c q j

  pub reached : Reached
  reached =
      let d = fresh c.procs c.locs bound in
      let a = words_sweep 8 0 d refl (record { procs = refl; locs = refl; next = omega arith; need = omega arith; words = λ l h. absurd (omega arith); rest = λ l h. refl; presets = λ n. refl; counts = λ p. refl }) in
      let s = a.2 in
      let b = regs_sweep 32 0 a.0 refl (record { procs = s.procs; locs = s.locs; next = omega (arith, s.next); need = s.need; words = s.words; presets = λ n h. absurd (omega arith); rest = λ n h. s.presets n; counts = s.counts }) in
      let t = b.2 in
      let e = procs_sweep 4 0 b.0 refl (record { procs = t.procs; locs = t.locs; place = inl (refl, omega (arith, t.next), t.need); words = t.words; presets = t.presets; counts = λ q h. absurd (omega arith); count = t.counts 0; rest = λ q h. t.counts q; instrs = λ q j h k. absurd (omega arith); own = λ j h. absurd (omega arith) }) in
      let u = e.2 in
      record {
        last = e.0;
        runs = run_then d a.0 (mem_lines c) (reg_lines c ++ op_lines c) a.1 ∙ run_then a.0 b.0 (reg_lines c) (op_lines c) b.1 ∙ e.1;
        done = ⊎_elim (λ z. z.2) (λ z. absurd (let w = z.0 in omega arith)) u.place;
        procs = u.procs;
        locs = u.locs;
        words = u.words;
        presets = u.presets;
        counts = u.counts;
        instrs = u.instrs;
      }
