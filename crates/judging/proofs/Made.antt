-- What an accepted line keeps of a draft. Assumes nothing.
use mathlib.Core.Path.{◌≡◌, refl, ap, sym, ◌∙◌, subst}
use mathlib.Core.Logic.{◌⊎◌, inl, inr, ⊎_elim}
use mathlib.Core.Bool.{true, ◌||◌}
use mathlib.Core.List.{List, [], ◌∷◌, ◌++◌, append_assoc, append-nil}
use mathlib.Core.Option.{Option, none, some}
use Prim.Native.Nat.{ℕ, zero, suc, ◌+◌, ◌*◌, ◌-◌, ◌/◌, ◌%◌, ◌<◌, ◌≤◌, max}
use native.Mathlib.Omega.{arith}
use lib.Dec.{ltb, leb}
use borrow.Author.Tests.{leb-true, ltb-true}
use Rattle.words.specs.Small.{each, counting, concat_map, put, or_zero}
use Rattle.words.proofs.Bools.{or_cases, put_same, put_other}
use Rattle.words.proofs.Lists.{each_more, each_same}
use Rattle.cases.specs.declared.Instr.{Instr}
use Rattle.cases.specs.declared.Instr.TheVariants.{Empty}
use Rattle.texts.specs.Lines.{Line, head, mem, reg, op, mem_line, reg_line}
use Rattle.judging.specs.Draft.{Draft, with_mem, with_reg, with_op, mem_ok, reg_ok, op_ok, from, label_of, low_instr, fresh, draft_lines, mem_at, reg_at, op_at, step}
use Rattle.judging.proofs.Small.{same?, put_case, cond-some, none-some, and4, and5, grow, nil_all}

-- a processor whose lines can still go on, with labels up to need
pub record Open (d : Draft) (p : ℕ) : Type 0 where
  pub present : p < d.procs
  pub begun : from p < d.next
  pub room : d.next ≤ from p + 12
  pub near : d.need ≤ from p + 12

-- a label that is reached, or may be yet
pub record Late (d : Draft) (p label : ℕ) : Type 0 where
  pub begun : from p < d.next
  pub room : d.next ≤ from p + 12
  pub near : from p + label ≤ d.need

pub record Made (d : Draft) (ls : List Line) : Type 0 where
  pub lines : draft_lines d ≡ ls
  pub procs : (1 ≤ d.procs) × (d.procs ≤ 4)
  pub locs : (1 ≤ d.locs) × (d.locs ≤ 8)
  pub words : (l : ℕ) → d.next ≤ l → d.words l ≡ 0
  pub words_in : (l : ℕ) → d.locs ≤ l → d.words l ≡ 0
  pub words_small : (l : ℕ) → d.words l < 65536
  pub presets : (n : ℕ) → d.next ≤ 8 + n → d.presets n ≡ none
  pub presets_in : (n : ℕ) → 8 * d.procs ≤ n → d.presets n ≡ none
  pub presets_small : (n : ℕ) → or_zero (d.presets n) < 65536
  pub counts : (p : ℕ) → d.next ≤ from p + 12 → d.counts p ≡ d.next - from p
  pub counts_small : (p : ℕ) → d.counts p ≤ 12
  pub counts_in : (p : ℕ) → d.procs ≤ p → d.counts p ≡ 0
  pub unused : (p i : ℕ) → d.counts p ≤ i → i < 12 → d.instrs (12 * p + i) ≡ Empty
  pub used : (p i : ℕ) → i < d.counts p → low_instr (d.instrs (12 * p + i)) ≡ true
  pub labels : (p i : ℕ) → i < d.counts p → (label_of (d.instrs (12 * p + i)) ≤ d.counts p) ⊎ Late d p (label_of (d.instrs (12 * p + i)))
  pub still : (d.need ≤ d.next) ⊎ ((p : ℕ) × Open d p)

-- no line yet
pub made_fresh : (p m : ℕ) (o : Option ℕ) → 1 ≤ p → p ≤ 4 → 1 ≤ m → m ≤ 8 → Made (fresh p m o) []
made_fresh p m o a b x y =
    record {
      lines = refl;
      procs = (a, b);
      locs = (x, y);
      words = λ l h. refl;
      words_in = λ l h. refl;
      words_small = λ l. omega arith;
      presets = λ n h. refl;
      presets_in = λ n h. refl;
      presets_small = λ n. omega arith;
      counts = λ p h. omega arith;
      counts_small = λ p. omega arith;
      counts_in = λ p h. refl;
      unused = λ p i h k. refl;
      used = λ p i h. absurd (omega arith);
      labels = λ p i h. absurd (omega arith);
      still = inl (omega arith);
    }

join₁ : (m m' r o : List Line) (x : Line) → m' ≡ m ++ (x ∷ []) → r ≡ [] → o ≡ [] → m' ++ (r ++ o) ≡ (m ++ (r ++ o)) ++ (x ∷ [])
join₁ m m' r o x a b c = rw (a, b, c, append-nil, append-nil)

join₂ : (m r r' o : List Line) (x : Line) → r' ≡ r ++ (x ∷ []) → o ≡ [] → m ++ (r' ++ o) ≡ (m ++ (r ++ o)) ++ (x ∷ [])
join₂ m r r' o x a c = rw (a, c, append-nil, append-nil) (sym (append_assoc m r (x ∷ [])))

join₃ : (m r o o' : List Line) (x : Line) → o' ≡ o ++ (x ∷ []) → m ++ (r ++ o') ≡ (m ++ (r ++ o)) ++ (x ∷ [])
join₃ m r o o' x a = rw a (simp append_assoc)

mem_line_lem : (l v : ℕ) → 0 < v → mem_line l v ≡ mem l v ∷ []
mem_line_lem l zero h = absurd (omega arith)
mem_line_lem l (suc v) h = refl

each_none : {A : Type 0} (f : ℕ → A) (n : ℕ) → n ≡ 0 → each n f ≡ []
each_none f n h = rw h

module _ (d : Draft) (ls : List Line) (made : Made d ls) where
  module _ (l v : ℕ) (ok : mem_ok d l v ≡ true) where
    facts₁ : (d.next ≤ l) × (l < d.locs) × (0 < v) × (v < 65536)
    facts₁ = let h = and4 _ _ _ _ ok in (leb-true _ _ h.0, ltb-true _ _ h.1, ltb-true _ _ h.2, ltb-true _ _ h.3)

    pub made_mem : Made (with_mem d l v) (ls ++ (mem l v ∷ []))
    made_mem =
        let f = facts₁ in
        let before = f.0 in
        let inside = f.1 in
        let pos = f.2 in
        let small = f.3 in
        let lim = made.locs.1 in
        let few = made.procs.1 in
        record {
          lines =
              join₁ (concat_map (mem_at d) (counting 0 8)) (concat_map (mem_at (with_mem d l v)) (counting 0 8)) (concat_map (reg_at d) (counting 0 32)) (concat_map (op_at d) (counting 0 4)) (mem l v)
              (grow (mem_at d) (mem_at (with_mem d l v)) (mem l v) l
              (λ q h. ap (mem_line q) (put_other d.words l q v h))
              (ap (mem_line l) (put_same d.words l l v refl) ∙ mem_line_lem l v pos ∙ sym (ap (λ (w : ℕ). mem_line l w ++ (mem l v ∷ [])) (made.words l before)))
              (λ q h. ap (mem_line q) (made.words q (omega arith)))
              0 8 (omega arith) (omega arith))
              (nil_all (reg_at d) 0 32 (λ q h. ap (reg_line (q / 8) (q % 8)) (made.presets q (omega arith))))
              (nil_all (op_at d) 0 4 (λ q h. each_none (λ i. op q (d.instrs (12 * q + i))) (d.counts q) (made.counts q (omega arith) ∙ omega arith)))
              ∙ ap (λ (k : List Line). k ++ (mem l v ∷ [])) made.lines;
          procs = made.procs;
          locs = made.locs;
          words = λ k h. put_case (λ (w : ℕ). w ≡ 0) d.words l v k (λ e. absurd (omega arith)) (λ e. made.words k (omega arith));
          words_in = λ k h. put_case (λ (w : ℕ). w ≡ 0) d.words l v k (λ e. absurd (omega arith)) (λ e. made.words_in k h);
          words_small = λ k. put_case (λ (w : ℕ). w < 65536) d.words l v k (λ e. small) (λ e. made.words_small k);
          presets = λ n h. made.presets n (omega arith);
          presets_in = made.presets_in;
          presets_small = made.presets_small;
          counts = λ p h. made.counts p (omega arith) ∙ omega arith;
          counts_small = made.counts_small;
          counts_in = made.counts_in;
          unused = made.unused;
          used = made.used;
          labels = λ p i h. absurd (omega (arith, made.counts p (omega arith)));
          still = ⊎_elim (λ h. inl (omega arith)) (λ o. absurd (omega (arith, o.1.begun))) made.still;
        }

  module _ (p k v : ℕ) (ok : reg_ok d p k v ≡ true) where
    abbrev n : ℕ
    n = 8 * p + k

    facts₂ : (d.next ≤ 8 + n) × (p < d.procs) × (k < 8) × (v < 65536)
    facts₂ = let h = and4 _ _ _ _ ok in (leb-true _ _ h.0, ltb-true _ _ h.1, ltb-true _ _ h.2, ltb-true _ _ h.3)

    reg_line_lem : reg_line (n / 8) (n % 8) (some v) ≡ reg p k v ∷ []
    reg_line_lem =
        let f = facts₂.2 in
        let a : n / 8 ≡ p = omega arith in
        let b : n % 8 ≡ k = omega arith in
        λ t. reg (a t) (b t) v ∷ []

    pub made_reg : Made (with_reg d n v) (ls ++ (reg p k v ∷ []))
    made_reg =
        let f = facts₂ in
        let before = f.0 in
        let inside = f.1 in
        let low = f.2 in
        let small = f.3 in
        let few = made.procs.1 in
        record {
          lines =
              join₂ (concat_map (mem_at d) (counting 0 8)) (concat_map (reg_at d) (counting 0 32)) (concat_map (reg_at (with_reg d n v)) (counting 0 32)) (concat_map (op_at d) (counting 0 4)) (reg p k v)
              (grow (reg_at d) (reg_at (with_reg d n v)) (reg p k v) n
              (λ q h. ap (reg_line (q / 8) (q % 8)) (put_other d.presets n q (some v) h))
              (ap (reg_line (n / 8) (n % 8)) (put_same d.presets n n (some v) refl) ∙ reg_line_lem ∙ sym (ap (λ (w : Option ℕ). reg_line (n / 8) (n % 8) w ++ (reg p k v ∷ [])) (made.presets n before)))
              (λ q h. ap (reg_line (q / 8) (q % 8)) (made.presets q (omega arith)))
              0 32 (omega arith) (omega arith))
              (nil_all (op_at d) 0 4 (λ q h. each_none (λ i. op q (d.instrs (12 * q + i))) (d.counts q) (made.counts q (omega arith) ∙ omega arith)))
              ∙ ap (λ (t : List Line). t ++ (reg p k v ∷ [])) made.lines;
          procs = made.procs;
          locs = made.locs;
          words = λ l h. made.words l (omega arith);
          words_in = made.words_in;
          words_small = made.words_small;
          presets = λ q h. put_case (λ (w : Option ℕ). w ≡ none) d.presets n (some v) q (λ e. absurd (omega arith)) (λ e. made.presets q (omega arith));
          presets_in = λ q h. put_case (λ (w : Option ℕ). w ≡ none) d.presets n (some v) q (λ e. absurd (omega arith)) (λ e. made.presets_in q h);
          presets_small = λ q. put_case (λ (w : Option ℕ). or_zero w < 65536) d.presets n (some v) q (λ e. small) (λ e. made.presets_small q);
          counts = λ p h. made.counts p (omega arith) ∙ omega arith;
          counts_small = made.counts_small;
          counts_in = made.counts_in;
          unused = made.unused;
          used = made.used;
          labels = λ p i h. absurd (omega (arith, made.counts p (omega arith)));
          still = ⊎_elim (λ h. inl (omega arith)) (λ o. absurd (omega (arith, o.1.begun))) made.still;
        }

  module _ (p : ℕ) (x : Instr) (ok : op_ok d p (d.next - from p) x ≡ true) where
    abbrev i : ℕ
    i = d.next - from p

    facts₃ : (p < d.procs) × (i < 12) × (low_instr x ≡ true) × (label_of x ≤ 12) × ((ltb 0 i || leb d.need d.next) ≡ true)
    facts₃ = let h = and5 _ _ _ _ _ ok in (ltb-true _ _ h.0, ltb-true _ _ h.1, h.2, leb-true _ _ h.3, h.4)

    closed : (0 < i) ⊎ (d.need ≤ d.next)
    closed = ⊎_elim (λ h. inl (ltb-true 0 i h)) (λ h. inr (leb-true d.need d.next h)) (or_cases (ltb 0 i) (leb d.need d.next) facts₃.4)

    count_is : d.counts p ≡ i
    count_is = let f = facts₃.1 in made.counts p (omega arith)

    -- the slots of other places
    module _ (q j : ℕ) (small : j < 12) where
      pub slot_case : (P : Instr → Type 0) → (q ≡ p → j ≡ i → P x) → (((q ≡ p) × (j ≡ i) → ⊥) → P (d.instrs (12 * q + j))) → P (put d.instrs (12 * p + i) x (12 * q + j))
      slot_case P y n =
          let f = facts₃.1 in
          put_case P d.instrs (12 * p + i) x (12 * q + j) (λ e. y (omega arith) (omega arith)) (λ e. n (λ w. e (let a = w.0 in let b = w.1 in omega arith)))

    op_here : op_at (with_op d p i x) p ≡ op_at d p ++ (op p x ∷ [])
    op_here =
        let f = facts₃.1 in
        let c = count_is in
        ap (λ (n : ℕ). each n (λ j. op p (put d.instrs (12 * p + i) x (12 * p + j)))) (put_same d.counts p p (suc i) refl)
        ∙ each_more (λ j. op p (put d.instrs (12 * p + i) x (12 * p + j))) i
        ∙ (λ t.
        each_same (λ j. op p (put d.instrs (12 * p + i) x (12 * p + j))) (λ j. op p (d.instrs (12 * p + j))) i (λ j h. ap (op p) (put_other d.instrs (12 * p + i) (12 * p + j) x (λ e. absurd (omega arith)))) t
        ++ (op p (put_same d.instrs (12 * p + i) (12 * p + i) x refl t) ∷ []))
        ∙ ap (λ (n : ℕ). each n (λ j. op p (d.instrs (12 * p + j))) ++ (op p x ∷ [])) (sym c)

    op_other : (q : ℕ) → (q ≡ p → ⊥) → op_at (with_op d p i x) q ≡ op_at d q
    op_other q h =
        let f = facts₃.1 in
        ap (λ (n : ℕ). each n (λ j. op q (put d.instrs (12 * p + i) x (12 * q + j)))) (put_other d.counts p q (suc i) h)
        ∙ each_same (λ j. op q (put d.instrs (12 * p + i) x (12 * q + j))) (λ j. op q (d.instrs (12 * q + j))) (d.counts q)
        (λ j b. let c = made.counts_small q in ap (op q) (slot_case q j (omega arith) (λ y. y ≡ d.instrs (12 * q + j)) (λ e w. absurd (h e)) (λ w. refl)))

    late : (q l : ℕ) → (l ≤ d.counts q) ⊎ Late d q l → (q ≡ p → ⊥) → l ≤ d.counts q
    late q l (inl h) n = h
    late q l (inr h) n =
        let f = facts₃.1 in
        let b = h.begun in
        let r = h.room in
        let e = h.near in
        let c = made.counts q r in
        ⊎_elim (λ z. absurd (n (omega arith))) (λ z. omega arith) closed

    -- a label of this processor
    own : (l : ℕ) → (l ≤ d.counts p) ⊎ Late d p l → (l ≤ suc i) ⊎ Late (with_op d p i x) p l
    own l (inl h) = inl (omega (arith, count_is))
    own l (inr h) = let e = h.near in let f = facts₃.1 in inr (record { begun = omega arith; room = omega arith; near = omega arith })

    labels_op : (q j : ℕ) → j < put d.counts p (suc i) q → (label_of (put d.instrs (12 * p + i) x (12 * q + j)) ≤ put d.counts p (suc i) q) ⊎ Late (with_op d p i x) q (label_of (put d.instrs (12 * p + i) x (12 * q + j)))
    labels_op q j = ⊎_elim here there (same? q p)
      where
        here : q ≡ p → j < put d.counts p (suc i) q → (label_of (put d.instrs (12 * p + i) x (12 * q + j)) ≤ put d.counts p (suc i) q) ⊎ Late (with_op d p i x) q (label_of (put d.instrs (12 * p + i) x (12 * q + j)))
        here e h =
            let f = facts₃.1 in
            let n = put_same d.counts p q (suc i) e in
            let b : j < suc i = omega arith in
            let c = count_is in
            slot_case q j (omega arith) (λ y. (label_of y ≤ put d.counts p (suc i) q) ⊎ Late (with_op d p i x) q (label_of y))
            (λ u w. inr (record { begun = omega arith; room = omega arith; near = omega arith }))
            (λ w. ⊎_elim (λ z. inl (omega arith)) (λ z. inr (record { begun = omega (arith, z.begun); room = omega (arith, z.room); near = omega (arith, z.near) }))
            (let jj : j < d.counts q = ⊎_elim (λ z. absurd (w (e, z))) (λ z. subst (λ (k : ℕ). j < d.counts k) (sym e) (omega arith)) (same? j i) in
            subst (λ (k : ℕ). (label_of (d.instrs (12 * q + j)) ≤ suc i) ⊎ Late (with_op d p i x) k (label_of (d.instrs (12 * q + j)))) (sym e) (own _ (subst (λ (k : ℕ). (label_of (d.instrs (12 * q + j)) ≤ d.counts k) ⊎ Late d k (label_of (d.instrs (12 * q + j)))) e (made.labels q j jj)))))

        there : (q ≡ p → ⊥) → j < put d.counts p (suc i) q → (label_of (put d.instrs (12 * p + i) x (12 * q + j)) ≤ put d.counts p (suc i) q) ⊎ Late (with_op d p i x) q (label_of (put d.instrs (12 * p + i) x (12 * q + j)))
        there n h =
            let c = put_other d.counts p q (suc i) n in
            let s = made.counts_small q in
            slot_case q j (omega arith) (λ y. (label_of y ≤ put d.counts p (suc i) q) ⊎ Late (with_op d p i x) q (label_of y))
            (λ u w. absurd (n u))
            (λ w. inl (subst (λ (k : ℕ). label_of (d.instrs (12 * q + j)) ≤ k) (sym c) (late q _ (made.labels q j (omega arith)) n)))

    counts_op : (q : ℕ) → suc (from p + i) ≤ from q + 12 → put d.counts p (suc i) q ≡ suc (from p + i) - from q
    counts_op q h =
        let f = facts₃.1 in
        put_case (λ (c : ℕ). c ≡ suc (from p + i) - from q) d.counts p (suc i) q (λ e. omega arith) (λ e. made.counts q (omega arith) ∙ omega arith)

    pub made_op : Made (with_op d p i x) (ls ++ (op p x ∷ []))
    made_op =
        let f = facts₃ in
        let present = f.0 in
        let room = f.1 in
        let near = f.3 in
        let few = made.procs.1 in
        record {
          lines =
              join₃ (concat_map (mem_at d) (counting 0 8)) (concat_map (reg_at d) (counting 0 32)) (concat_map (op_at d) (counting 0 4)) (concat_map (op_at (with_op d p i x)) (counting 0 4)) (op p x)
              (grow (op_at d) (op_at (with_op d p i x)) (op p x) p op_other op_here
              (λ q h. each_none (λ i. op q (d.instrs (12 * q + i))) (d.counts q) (made.counts q (omega arith) ∙ omega arith))
              0 4 (omega arith) (omega arith))
              ∙ ap (λ (t : List Line). t ++ (op p x ∷ [])) made.lines;
          procs = made.procs;
          locs = made.locs;
          words = λ l h. made.words l (omega arith);
          words_in = made.words_in;
          words_small = made.words_small;
          presets = λ n h. made.presets n (omega arith);
          presets_in = made.presets_in;
          presets_small = made.presets_small;
          counts = counts_op;
          counts_small = λ q. put_case (λ (c : ℕ). c ≤ 12) d.counts p (suc i) q (λ e. omega arith) (λ e. made.counts_small q);
          counts_in = λ q h. put_case (λ (c : ℕ). c ≡ 0) d.counts p (suc i) q (λ e. absurd (omega arith)) (λ e. made.counts_in q h);
          unused = unused_op;
          used = used_op;
          labels = labels_op;
          still = inr (p, record { present = present; begun = omega arith; room = omega arith; near = near_op });
        }
      where
        unused_op : (q j : ℕ) → put d.counts p (suc i) q ≤ j → j < 12 → put d.instrs (12 * p + i) x (12 * q + j) ≡ Empty
        unused_op q j h b =
            slot_case q j b (λ y. y ≡ Empty)
            (λ e w. absurd (omega (arith, put_same d.counts p q (suc i) e)))
            (λ w. made.unused q j (put_case (λ (c : ℕ). c ≤ j → d.counts q ≤ j) d.counts p (suc i) q (λ e z. subst (λ (k : ℕ). d.counts k ≤ j) (sym e) (omega (arith, count_is))) (λ e z. z) h) b)

        used_op : (q j : ℕ) → j < put d.counts p (suc i) q → low_instr (put d.instrs (12 * p + i) x (12 * q + j)) ≡ true
        used_op q j h =
            let c = put_case (λ (c : ℕ). c ≤ 12) d.counts p (suc i) q (λ e. let f = facts₃.1 in omega arith) (λ e. made.counts_small q) in
            slot_case q j (omega arith) (λ y. low_instr y ≡ true)
            (λ e w. facts₃.2)
            (λ w. made.used q j (put_case (λ (c : ℕ). j < c → j < d.counts q) d.counts p (suc i) q (λ e z. subst (λ (k : ℕ). j < d.counts k) (sym e) (let n : j ≡ i → ⊥ = λ u. w (e, u) in omega (arith, count_is))) (λ e z. z) h))

        near_op : max d.need (from p + label_of x) ≤ from p + 12
        near_op =
            let near = facts₃.3 in
            let room = facts₃.1 in
            ⊎_elim (λ h. omega arith)
            (λ o. let b = o.1.begun in let r = o.1.room in let e = o.1.near in ⊎_elim (λ z. omega arith) (λ z. omega arith) closed)
            made.still

-- An accepted line.
pub made_step : (d e : Draft) (ls : List Line) (l : Line) → Made d ls → step d l ≡ some e → Made e (ls ++ (l ∷ []))
made_step d e ls (head p m b) made h = absurd (none-some h)
made_step d e ls (mem l v) made h = let r = cond-some (mem_ok d l v) (with_mem d l v) e h in subst (λ (e : Draft). Made e (ls ++ (mem l v ∷ []))) r.1 (made_mem d ls made l v r.0)
made_step d e ls (reg p k v) made h = let r = cond-some (reg_ok d p k v) (with_reg d (8 * p + k) v) e h in subst (λ (e : Draft). Made e (ls ++ (reg p k v ∷ []))) r.1 (made_reg d ls made p k v r.0)
made_step d e ls (op p x) made h = let r = cond-some (op_ok d p (d.next - from p) x) (with_op d p (d.next - from p) x) e h in subst (λ (e : Draft). Made e (ls ++ (op p x ∷ []))) r.1 (made_op d ls made p x r.0)
