-- The machine after an instruction. Assumes nothing.
use Rattle.std.specs.Prelude.{Some}
use mathlib.Core.Path.{◌≡◌, refl, sym, ◌∙◌, ap, ap₂, subst, fun_ext}
use mathlib.Core.Logic.{⊎_elim}
use mathlib.Core.Bool.{Bool, true, false, cond, ◌&&◌, ◌||◌, false≢true}
use mathlib.Core.List.{List, [], ◌∷◌, ◌++◌, append-nil}
use mathlib.Core.Option.{Option, none, some}
use Prim.Native.Nat.{ℕ, ◌+◌, ◌*◌, ◌-◌, ◌%◌, ◌≤◌, ◌<◌}
use native.Mathlib.Numerals.{add-one}
use native.Mathlib.Omega.{arith}
use native.Mathlib.Decide.{dec_lt}
use lib.Dec.{eqb, ltb}
use lib.ListN.{length, get_or, set, length-set}
use lib.Seq.{get_or-set_same, get_or-set_other}
use borrow.Author.Tests.{lt-ltb, le-ltb, ltb-true, leb-false, eqb-true, eqb-false, eq-eqb, ne_eqb}
use Rattle.words.specs.Small.{is, is_none, or_zero, put}
use Rattle.words.proofs.Bools.{decide, and_both, and_rest, cond-true, cond-false}
use Rattle.cases.specs.declared.Case.{Case}
use Rattle.cases.specs.declared.Instr.{Instr}
use Rattle.cases.specs.declared.Instr.TheVariants.{Empty, Read, Write, Local, Branch, Goto, Acquire, Release}
use Rattle.cases.specs.Case.{count_of, instr_at}
use Rattle.rules.specs.Kinds.{kind, reading, writing, acquiring, accesses, syncs, assigns, evaluate}
use Rattle.machine.specs.Shown.{Value, shown_value, holder_of}
use Rattle.machine.specs.Fit.{Fine}
use Rattle.machine.proofs.Stores.{set_put, set_all}
use Rattle.issuing.specs.Issued.{assigned_by}
use Rattle.committing.specs.Committed.{result_by, locked_by}
use Rattle.boards.specs.declared.Buffering.{Buffering}
use Rattle.boards.specs.Board.{slot, Store, Board, seen}
use Rattle.boards.specs.Run.{in_memory, in_buffer, assigned, operand, follows, yields, new_store, ran}
use Rattle.boards.proofs.Accepted.{CanRun, can_run, write_accesses}
use Rattle.boards.proofs.Buffers.{same-board, entered_cases}
use Rattle.stores.specs.declared.Logged.{Logged}
use Rattle.running.specs.declared.Arrays.{Arrays}
use Rattle.stores.specs.Log.{blank, sits_in, store_of, buffer_of}
use Rattle.running.specs.Shown.{unknown, values_of, shown}
use Rattle.stores.specs.Log.{buffer_by}
use Rattle.running.specs.Steps.{first_by, second_by, assign_by, follow_by, stored_by, written_by}
use Rattle.running.specs.Valid.{Valid}
use Rattle.running.specs.Given.{Running, Ran}
use Rattle.stores.proofs.Gathered.{buffer_more}
use Rattle.running.proofs.Operands.{first_is, second_is}

-- registers

assigned-some : (i : Instr) → Fine i → assigned_by i < 8 → assigns i ≡ some (assigned_by i)
assigned-some Empty f h = absurd f
assigned-some (Read d a) f h = refl
assigned-some (Write a b) f h = absurd (omega arith)
assigned-some (Local d e) f h = refl
assigned-some (Branch a l) f h = absurd (omega arith)
assigned-some (Goto l) f h = absurd (omega arith)
assigned-some (Acquire a) f h = absurd (omega arith)
assigned-some (Release a) f h = absurd (omega arith)

assigned-none : (i : Instr) → Fine i → 8 ≤ assigned_by i → assigns i ≡ none
assigned-none Empty f h = absurd f
assigned-none (Read d a) f h = absurd (omega (arith, f.0))
assigned-none (Write a b) f h = refl
assigned-none (Local d e) f h = absurd (omega (arith, f.0))
assigned-none (Branch a l) f h = refl
assigned-none (Goto l) f h = refl
assigned-none (Acquire a) f h = refl
assigned-none (Release a) f h = refl

put_id : {A : Type 0} (f : ℕ → A) (p : ℕ) → f ≡ put f p (f p)
put_id f p = fun_ext (λ (q : ℕ). ⊎_elim (λ h. rw h (ap f (eqb-true q p h))) (λ h. rw h) (decide (eqb q p)))

module _ (c : Case) (values : List Value) (p d v : ℕ) (long : length values ≡ 32) (hp : p < 4) (hd : d < 8) where
  abbrev kept : List Value
  kept = set values (8 * p + d) (Some v)

  abbrev target : ℕ → ℕ → Option ℕ
  target = put (values_of c values) p (put (values_of c values p) d (some v))

  kept_same : values_of c kept p d ≡ some v
  kept_same = rw (lt-ltb p 4 hp, lt-ltb d 8 hd) (ap shown_value (get_or-set_same values (8 * p + d) (Some v) unknown (omega arith)))

  kept_other : (q j : ℕ) → ((q ≡ p) × (j ≡ d) → ⊥) → values_of c kept q j ≡ values_of c values q j
  kept_other q j n = ⊎_elim inside outside (decide (ltb q 4 && ltb j 8))
    where
      apart : q < 4 → j < 8 → 8 * q + j ≡ 8 * p + d → ⊥
      apart a b e = n (omega arith, omega arith)

      inside : (ltb q 4 && ltb j 8) ≡ true → values_of c kept q j ≡ values_of c values q j
      inside h = let u = and_both (ltb q 4) (ltb j 8) h in rw h (ap shown_value (get_or-set_other values (8 * p + d) (8 * q + j) _ unknown (apart (ltb-true q 4 u.0) (ltb-true j 8 u.1))))

      outside : (ltb q 4 && ltb j 8) ≡ false → values_of c kept q j ≡ values_of c values q j
      outside h = rw h

  kept_put : values_of c kept ≡ target
  kept_put = fun_ext (λ (q : ℕ). fun_ext (at q))
    where
      at : (q j : ℕ) → values_of c kept q j ≡ target q j
      at q j = ⊎_elim here there (decide (eqb q p))
        where
          row : eqb q p ≡ true → target q j ≡ put (values_of c values p) d (some v) j
          row h = ap (λ (f : ℕ → Option ℕ). f j) (cond-true (eqb q p) _ _ h)

          here : eqb q p ≡ true → values_of c kept q j ≡ target q j
          here h =
              ⊎_elim
              (λ e. ap (λ (x : ℕ). values_of c kept x j) (eqb-true q p h) ∙ ap (values_of c kept p) (eqb-true j d e) ∙ kept_same ∙ sym (row h ∙ cond-true (eqb j d) _ _ e))
              (λ e. kept_other q j (λ n. eqb-false j d e n.1) ∙ ap (λ (x : ℕ). values_of c values x j) (eqb-true q p h) ∙ sym (row h ∙ cond-false (eqb j d) _ _ e))
              (decide (eqb j d))

          there : eqb q p ≡ false → values_of c kept q j ≡ target q j
          there h = kept_other q j (λ n. eqb-false q p h n.0) ∙ sym (ap (λ (f : ℕ → Option ℕ). f j) (cond-false (eqb q p) _ _ h))

assign_is : (c : Case) (values : List Value) (p v : ℕ) (i : Instr) → length values ≡ 32 → p < 4 → Fine i
    → values_of c (assign_by values p (assigned_by i) v) ≡ put (values_of c values) p (assigned (values_of c values p) (assigns i) (some v))
assign_is c values p v i long low f =
    elim (dec_lt (assigned_by i) 8) [
      | yes h ↦
          ap (values_of c) (cond-true _ _ _ (lt-ltb (assigned_by i) 8 h)) ∙ kept_put c values p (assigned_by i) v long low h
          ∙ ap (λ (o : Option ℕ). put (values_of c values) p (assigned (values_of c values p) o (some v))) (sym (assigned-some i f h))
      | no h ↦
          let g : 8 ≤ assigned_by i = omega arith in
          ap (values_of c) (cond-false _ _ _ (le-ltb (assigned_by i) 8 g)) ∙ put_id (values_of c values) p
          ∙ ap (λ (o : Option ℕ). put (values_of c values) p (assigned (values_of c values p) o (some v))) (sym (assigned-none i f g))
    ]

assign_long : (values : List Value) (p d v : ℕ) → length (assign_by values p d v) ≡ length values
assign_long values p d v = step (ltb d 8)
  where
    step : (b : Bool) → length (cond b (set values (8 * p + d) (Some v)) values) ≡ length values
    step true = length-set values _ _
    step false = refl

-- places and results

module _ (k : Buffering) (c : Case) (b : Board) (p x y val : ℕ) (hx : x ≡ operand k c b p 0) (hy : y ≡ operand k c b p 1) where
  follow_is : (i : Instr) → Fine i → follow_by i (b.places p) x ≡ follows k c b p i
  follow_is Empty f = add-one _
  follow_is (Read d a) f = add-one _
  follow_is (Write a v) f = add-one _
  follow_is (Local d e) f = add-one _
  follow_is (Branch a l) f = let q : l % 256 ≡ l = omega (arith, f.1) in rw (hx, q, add-one (b.places p))
  follow_is (Goto l) f = omega (arith, f)
  follow_is (Acquire a) f = add-one _
  follow_is (Release a) f = add-one _

  result_is : (i : Instr) → (reading (kind i) ≡ true → val ≡ seen k b p x) → result_by val x y i ≡ yields k c b p i
  result_is Empty r = refl
  result_is (Read d a) r = r refl ∙ ap (seen k b p) hx
  result_is (Write a v) r = hy
  result_is (Local d e) r = ap₂ (λ (m n : ℕ). evaluate e m n) hx hy
  result_is (Branch a l) r = refl
  result_is (Goto l) r = refl
  result_is (Acquire a) r = hx
  result_is (Release a) r = hx

follow_low : (i : Instr) (n x : ℕ) → Fine i → n < 12 → follow_by i n x ≤ 12
follow_low Empty n x f h = omega arith
follow_low (Read d a) n x f h = omega arith
follow_low (Write a v) n x f h = omega arith
follow_low (Local d e) n x f h = omega arith
follow_low (Branch a l) n x f h = step (eqb x 0)
  where
    step : (b : Bool) → cond b (n + 1) (l % 256) ≤ 12
    step true = omega arith
    step false = omega (arith, f.1)
follow_low (Goto l) n x f h = omega (arith, f)
follow_low (Acquire a) n x f h = omega arith
follow_low (Release a) n x f h = omega arith

-- locks

module _ (holders : List ℕ) (x p : ℕ) (long : length holders ≡ 8) where
  abbrev locks : List ℕ → ℕ → Option ℕ
  locks l q = holder_of (get_or l q 0)

  holder_by : (b : Bool) → holder_of (cond b (p + 1) 0) ≡ cond b (some p) none
  holder_by true = let q : p + 1 - 1 ≡ p = omega arith in rw (ne_eqb (p + 1) 0 (λ e. omega arith), q)
  holder_by false = refl

  holders_set : (b a : Bool) → (b ≡ true → x < 8) → locks (cond b (set holders x (cond a (p + 1) 0)) holders) ≡ cond b (put (locks holders) x (cond a (some p) none)) (locks holders)
  holders_set true a h = set_put holder_of holders 0 x (cond a (p + 1) 0) (cond a (some p) none) (omega (arith, h refl)) (holder_by a)
  holders_set false a h = refl

  holders_long : (b a : Bool) → length (cond b (set holders x (cond a (p + 1) 0)) holders) ≡ 8
  holders_long true a = length-set holders x _ ∙ long
  holders_long false a = long

-- the store

numbered : (k : Buffering) (l : ℕ) → buffer_by k l < 8 → slot k l ≡ some (buffer_by k l)
numbered Rattle.boards.specs.declared.Buffering.TheVariants.Direct l h = absurd (omega arith)
numbered Rattle.boards.specs.declared.Buffering.TheVariants.Shared l h = refl
numbered Rattle.boards.specs.declared.Buffering.TheVariants.Split l h = refl

unnumbered : (k : Buffering) (l : ℕ) → l < 8 → 8 ≤ buffer_by k l → slot k l ≡ none
unnumbered Rattle.boards.specs.declared.Buffering.TheVariants.Direct l h g = refl
unnumbered Rattle.boards.specs.declared.Buffering.TheVariants.Shared l h g = absurd (omega arith)
unnumbered Rattle.boards.specs.declared.Buffering.TheVariants.Split l h g = absurd (omega arith)

abbrev new_log : ℕ → ℕ → ℕ → Logged
new_log p l v = record { proc = p; loc = l; value = v; waits = true }

module _ (k : Buffering) (s : Arrays) (q p x y : ℕ) where
  abbrev direct : Arrays
  direct = record { places = s.places; values = s.values; holders = s.holders; memory = set s.memory x y; logged = s.logged; log = s.log }

  abbrev buffered : Arrays
  buffered = record { places = s.places; values = s.values; holders = s.holders; memory = s.memory; logged = s.logged + 1; log = set s.log s.logged (new_log p x y) }

  -- which of the three it is
  data Which (w : Arrays) : Type 0 where
    same : (writing q ≡ true → x < 8 → ⊥) → w ≡ s → Which w
    at_once : writing q ≡ true → x < 8 → slot k x ≡ none → w ≡ direct → Which w
    entered : writing q ≡ true → x < 8 → (b : ℕ) → slot k x ≡ some b → w ≡ buffered → Which w

  which : Which (written_by k s q p x y)
  which = by_kind (eqb q 2) refl
    where
      by_slot : eqb q 2 ≡ true → x < 8 → Which (stored_by k s p x y)
      by_slot e h =
          elim (dec_lt (buffer_by k x) 8) [
            | yes g ↦ entered e h (buffer_by k x) (numbered k x g) (cond-false _ _ _ (ne_eqb (buffer_by k x) 8 (λ z. omega arith)))
            | no g ↦ at_once e h (unnumbered k x h (omega arith)) (cond-true _ _ _ (eq-eqb (buffer_by k x) 8 (eight k x h (omega arith))))
          ]
        where
          eight : (k : Buffering) (l : ℕ) → l < 8 → 8 ≤ buffer_by k l → buffer_by k l ≡ 8
          eight Rattle.boards.specs.declared.Buffering.TheVariants.Direct l h g = refl
          eight Rattle.boards.specs.declared.Buffering.TheVariants.Shared l h g = absurd (omega arith)
          eight Rattle.boards.specs.declared.Buffering.TheVariants.Split l h g = absurd (omega arith)

      by_kind : (w : Bool) → eqb q 2 ≡ w → Which (cond (w && ltb x 8) (stored_by k s p x y) s)
      by_kind false e = same (λ z _. false≢true (sym e ∙ z)) refl
      by_kind true e =
          elim (dec_lt x 8) [
            | yes h ↦ rw (lt-ltb x 8 h) (by_slot e h)
            | no h ↦ rw (le-ltb x 8 (omega arith)) (same (λ _ z. h z) refl)
          ]

-- a store leaves the registers
pub written_values : (k : Buffering) (s : Arrays) (q p x y : ℕ) → (written_by k s q p x y).values ≡ s.values
written_values k s q p x y = by_kind (eqb q 2 && ltb x 8)
  where
    by_slot : (t : Bool) → (cond t (direct k s q p x y) (buffered k s q p x y)).values ≡ s.values
    by_slot true = refl
    by_slot false = refl

    by_kind : (t : Bool) → (cond t (stored_by k s p x y) s).values ≡ s.values
    by_kind true = by_slot (eqb (buffer_by k x) 8)
    by_kind false = refl

-- the machine after it; val is what a read takes
abbrev pub ran_by : Buffering → Arrays → ℕ → Instr → ℕ → Arrays
ran_by k s p i val =
    let x = or_zero (first_by s.values p i) in
    let y = or_zero (second_by s.values p i) in
    let w = written_by k s (kind i) p x y in
    record {
      places = set w.places p (follow_by i (get_or s.places p 0) x);
      values = assign_by s.values p (assigned_by i) (result_by val x y i);
      holders = locked_by (kind i) s.holders x p;
      memory = w.memory;
      logged = w.logged;
      log = w.log;
    }

module _ (k : Buffering) (c : Case) (s : Arrays) (p : ℕ) (given : Running k c s p) where
  abbrev v : Valid c s
  v = given.valid

  abbrev b : Board
  b = shown k c s

  abbrev place : ℕ
  place = get_or s.places p 0

  R : CanRun k c b p
  R = can_run k c b p given.free

  pub proc_low : p < 4
  proc_low = omega (arith, leb-false c.procs p R.low, v.fit.procs)

  pub place-low : place < count_of c p
  place-low = leb-false (count_of c p) place R.inside

  pub place_small : place < 12
  place_small = omega (arith, place-low, v.fit.counts p)

  pub fine : Fine (instr_at c p place)
  fine = v.fit.fine p place proc_low place-low

  abbrev i : Instr
  i = instr_at c p place

  abbrev x : ℕ
  x = or_zero (first_by s.values p i)

  abbrev y : ℕ
  y = or_zero (second_by s.values p i)

  hx : x ≡ operand k c b p 0
  hx = ap or_zero (first_is c s.values p proc_low i fine)

  hy : y ≡ operand k c b p 1
  hy = ap or_zero (second_is c s.values p proc_low i fine)

  near : (accesses (kind i) || syncs (kind i)) ≡ true → x < 8
  near h = let l = leb-false c.locs (operand k c b p 0) (and_rest (accesses (kind i) || syncs (kind i)) _ R.near h) in omega (arith, hx, l, v.fit.locs)

  -- the parts of the machine after the store
  record Parts (w : Arrays) : Type 0 where
    places : w.places ≡ s.places
    memory : (λ (l : ℕ). get_or w.memory l 0) ≡ cond (writing (kind i)) (in_memory (slot k (operand k c b p 0)) b.memory (new_store k c b p)) b.memory
    buffers : (q m : ℕ) → buffer_of k w.log w.logged q m ≡ cond (writing (kind i)) (put b.buffers p (in_buffer (slot k (operand k c b p 0)) (b.buffers p) (new_store k c b p))) b.buffers q m
    memory_long : length w.memory ≡ 8
    log_long : length w.log ≡ 48
    more : w.logged ≤ s.logged + 1
    stores : (j : ℕ) → j < w.logged → (get_or w.log j blank).loc < 8

  write_near : writing (kind i) ≡ true → x < 8
  write_near h = near (rw (write_accesses (kind i) h))

  new_store_lem : store_of (new_log p x y) ≡ new_store k c b p
  new_store_lem = λ j. record { loc = hx j; value = hy j }

  parts_same : writing (kind i) ≡ false → Parts s
  parts_same h =
      record {
        places = refl;
        memory = sym (cond-false _ _ _ h);
        buffers = λ q m. sym (ap (λ (f : ℕ → ℕ → List Store). f q m) (cond-false _ _ _ h));
        memory_long = v.memory_long;
        log_long = v.log_long;
        more = omega arith;
        stores = v.stores;
      }

  parts_direct : writing (kind i) ≡ true → slot k x ≡ none → Parts (direct k s (kind i) p x y)
  parts_direct h e =
      record {
        places = refl;
        memory =
            set_put (λ (n : ℕ). n) s.memory 0 x y y (omega (arith, v.memory_long, write_near h)) refl
            ∙ sym (cond-true _ _ _ h ∙ ap (λ (o : Option ℕ). in_memory o b.memory (new_store k c b p)) (ap (slot k) (sym hx) ∙ e) ∙ ap₂ (λ (m n : ℕ). put b.memory m n) (sym hx) (sym hy));
        buffers = λ q m. ⊎_elim (λ z. absurd (false≢true (ap is_none (sym z.2 ∙ ap (slot k) (sym hx) ∙ e)))) (λ z. sym z.1) (entered_cases b.buffers (writing (kind i)) (slot k (operand k c b p 0)) (new_store k c b p) p q m);
        memory_long = length-set s.memory x y ∙ v.memory_long;
        log_long = v.log_long;
        more = omega arith;
        stores = v.stores;
      }

  parts-buffered : writing (kind i) ≡ true → (n : ℕ) → slot k x ≡ some n → Parts (buffered k s (kind i) p x y)
  parts-buffered h n e =
      record {
        places = refl;
        memory = sym (cond-true _ _ _ h ∙ ap (λ (o : Option ℕ). in_memory o b.memory (new_store k c b p)) (ap (slot k) (sym hx) ∙ e));
        buffers = λ q m.
            buffer_more k s.log s.logged (new_log p x y) (omega (arith, v.log_long)) q m
            ∙ ⊎_elim (λ z. inside q m z) (λ z. outside q m z) (entered_cases b.buffers (writing (kind i)) (slot k (operand k c b p 0)) (new_store k c b p) p q m);
        memory_long = v.memory_long;
        log_long = length-set s.log _ _ ∙ v.log_long;
        more = omega arith;
        stores = λ j l. ⊎_elim (λ z. ap_loc j (eqb-true _ _ z)) (λ z. old j (omega (arith, eqb-false j s.logged z)) (eqb-false _ _ z)) (decide (eqb j s.logged));
      }
    where
      G : ℕ → ℕ → List Store
      G q m = cond (writing (kind i)) (put b.buffers p (in_buffer (slot k (operand k c b p 0)) (b.buffers p) (new_store k c b p))) b.buffers q m

      ap_loc : (j : ℕ) → j ≡ s.logged → (get_or (set s.log s.logged (new_log p x y)) j blank).loc < 8
      ap_loc j z = subst (λ (t : Logged). t.loc < 8) (sym (ap (λ (m : ℕ). get_or (set s.log s.logged (new_log p x y)) m blank) z ∙ get_or-set_same s.log s.logged (new_log p x y) blank (omega (arith, v.log_long)))) (write_near h)

      old : (j : ℕ) → j < s.logged → (j ≡ s.logged → ⊥) → (get_or (set s.log s.logged (new_log p x y)) j blank).loc < 8
      old j l z = subst (λ (t : Logged). t.loc < 8) (sym (get_or-set_other s.log s.logged j (new_log p x y) blank z)) (v.stores j l)

      inside : (q m : ℕ) → (q ≡ p) × (writing (kind i) ≡ true) × (slot k (operand k c b p 0) ≡ some m) × (G q m ≡ b.buffers q m ++ (new_store k c b p ∷ [])) → b.buffers q m ++ cond (sits_in k q m (new_log p x y)) (store_of (new_log p x y) ∷ []) [] ≡ G q m
      inside q m z =
          let here : sits_in k q m (new_log p x y) ≡ true = rw (eq-eqb p q (sym z.0), ap (slot k) hx ∙ z.2) (eq-eqb m m refl) in
          rw here (ap (λ (t : Store). b.buffers q m ++ (t ∷ [])) new_store_lem) ∙ sym z.3

      outside : (q m : ℕ) → (q ≡ p → writing (kind i) ≡ true → slot k (operand k c b p 0) ≡ some m → ⊥) × (G q m ≡ b.buffers q m) → b.buffers q m ++ cond (sits_in k q m (new_log p x y)) (store_of (new_log p x y) ∷ []) [] ≡ G q m
      outside q m z = not_here (sits_in k q m (new_log p x y)) refl ∙ append-nil (b.buffers q m) ∙ sym z.1
        where
          is_some : (o : Option ℕ) → is m o ≡ true → o ≡ some m
          is_some none t = absurd (false≢true t)
          is_some (some n) t = ap some (eqb-true n m t)

          not_here : (t : Bool) → sits_in k q m (new_log p x y) ≡ t → b.buffers q m ++ cond t (store_of (new_log p x y) ∷ []) [] ≡ b.buffers q m ++ []
          not_here false r = refl
          not_here true r =
              let u = and_both (eqb p q) (is m (slot k x)) r in
              absurd (z.0 (sym (eqb-true p q u.0)) h (ap (slot k) (sym hx) ∙ is_some (slot k x) u.1))

  parts : Parts (written_by k s (kind i) p x y)
  parts = by (which k s (kind i) p x y)
    where
      by : Which k s (kind i) p x y (written_by k s (kind i) p x y) → Parts (written_by k s (kind i) p x y)
      by (same n e) = subst Parts (sym e) (⊎_elim (λ h. absurd (n h (write_near h))) parts_same (decide (writing (kind i))))
      by (at_once h l o e) = subst Parts (sym e) (parts_direct h o)
      by (entered h l n o e) = subst Parts (sym e) (parts-buffered h n o)

  module _ (val : ℕ) (hv : reading (kind i) ≡ true → val ≡ seen k b p x) where
    run_shows : shown k c (ran_by k s p i val) ≡ ran k c b p
    unfolding ran
    run_shows =
        same-board (shown k c (ran_by k s p i val)) (ran k c b p)
        (ap (λ (l : List ℕ). λ (q : ℕ). get_or (set l p (follow_by i place x)) q 0) parts.places ∙ set_put (λ (n : ℕ). n) s.places 0 p (follow_by i place x) (follows k c b p i) (omega (arith, v.places_long, proc_low)) (follow_is k c b p x y val hx hy i fine))
        (assign_is c s.values p (result_by val x y i) i v.values_long proc_low fine ∙ ap (λ (n : ℕ). put b.values p (assigned (b.values p) (assigns i) (some n))) (result_is k c b p x y val hx hy i hv))
        (holders_set s.holders x p v.holders_long (syncs (kind i)) (acquiring (kind i)) (λ h. near (sync_near h)) ∙ ap (λ (n : ℕ). cond (syncs (kind i)) (put b.holders n (cond (acquiring (kind i)) (some p) none)) b.holders) hx)
        parts.memory
        parts.buffers
      where
        sync_near : syncs (kind i) ≡ true → (accesses (kind i) || syncs (kind i)) ≡ true
        sync_near h = Rattle.words.proofs.Bools.or_right (accesses (kind i)) (syncs (kind i)) h

    run_valid : Valid c (ran_by k s p i val)
    run_valid =
        record {
          fit = v.fit;
          logged = omega (arith, parts.more);
          places_long = length-set (written_by k s (kind i) p x y).places p (follow_by i place x) ∙ ap length parts.places ∙ v.places_long;
          values_long = assign_long s.values p (assigned_by i) _ ∙ v.values_long;
          holders_long = holders_long s.holders x p v.holders_long (syncs (kind i)) (acquiring (kind i));
          memory_long = parts.memory_long;
          log_long = parts.log_long;
          places = λ q h. set_all (λ (n : ℕ). n ≤ 12) (written_by k s (kind i) p x y).places 0 4 p (follow_by i place x) (omega (arith, ap length parts.places, v.places_long, proc_low)) (follow_low i place x fine place_small) (λ r l _. subst (λ (t : List ℕ). get_or t r 0 ≤ 12) (sym parts.places) (v.places r l)) q h;
          stores = parts.stores;
        }

  pub read_near : (t : Instr) → t ≡ instr_at c p place → reading (kind t) ≡ true → or_zero (first_by s.values p t) < 8
  read_near t e = subst (λ (u : Instr). reading (kind u) ≡ true → or_zero (first_by s.values p u) < 8) (sym e) (λ h. near (rw h))

  -- of the instruction as the code has it
  pub ran_right : (t : Instr) → t ≡ instr_at c p place → (val : ℕ) → (reading (kind t) ≡ true → val ≡ seen k b p (or_zero (first_by s.values p t))) → (z : Arrays) → z ≡ ran_by k s p t val
      → Ran k c s p z
  ran_right t e val hv z q =
      subst (Ran k c s p) (sym (q ∙ ap (λ (u : Instr). ran_by k s p u val) e))
      (record { shows = run_shows val hv'; valid = run_valid val hv'; logged = parts.more })
    where
      hv' : reading (kind (instr_at c p place)) ≡ true → val ≡ seen k b p x
      hv' = subst (λ (u : Instr). reading (kind u) ≡ true → val ≡ seen k b p (or_zero (first_by s.values p u))) e hv
