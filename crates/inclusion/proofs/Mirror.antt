-- A board mirrored in the WOMM: what stands between the two, and why a drain keeps it. Assumes nothing.
use mathlib.Core.Path.{◌≡◌, refl, sym, ◌∙◌, ap, ap₂, subst}
use mathlib.Core.Logic.{◌⊎◌, inl, inr, ⊎_elim}
use mathlib.Core.Bool.{true, false, ◌&&◌, false≢true}
use mathlib.Core.List.Memᴰ
use mathlib.Core.List.{List, [], ◌∷◌, map, Memᴰ}
use mathlib.Core.Option.{Option, none, some}
use Prim.Native.Nat.{ℕ, ◌+◌, ◌-◌, ◌≤◌, ◌<◌}
use native.Mathlib.Omega.{arith}
use lib.Dec.{eqb, ltb}
use borrow.Author.Tests.{eqb-true, eqb-false, eq-eqb, le-ltb, lt-ltb}
use Rattle.words.specs.Small.{is_none, or_zero, put}
use Rattle.words.proofs.Bools.{decide, and_both, and_make, put_same, put_other, cond-true, cond-false}
use Rattle.cases.specs.declared.Case.{Case}
use Rattle.rules.specs.Commit.{writes}
use Rattle.rules.specs.Kinds.{writing, releasing}
use Rattle.rules.specs.State.{State, kind_of, value_of, initial, item_value}
use Rattle.rules.proofs.Actions.{item_high}
use Rattle.boards.specs.Board.{slot, Board, opening}
use Rattle.boards.specs.Drain.{drained}
use Rattle.boards.specs.declared.Buffering.{Buffering}
use Rattle.boards.proofs.Buffers.{put2_cases}
use Rattle.inclusion.proofs.Stores.{Ascends, store_of}
use Rattle.inclusion.proofs.Took.{Settled, settled_initial}

-- action j is a store in buffer n of processor p
pub record Held (k : Buffering) (c : Case) (s : State) (p n j : ℕ) : Type 0 where
  pub there : j < s.count
  pub mine : (s.actions j).proc ≡ p
  pub writes : writing (kind_of (s.actions j)) ≡ true
  pub goes : slot k (s.actions j).loc ≡ some n
  pub low : n < c.locs

-- item w is a store in a buffer
pub record Buffered (items : ℕ → ℕ → List ℕ) (w : ℕ) : Type 0 where
  pub proc : ℕ
  pub buffer : ℕ
  pub store : ℕ
  pub same : w ≡ 8 + store
  pub mem : Memᴰ store (items proc buffer)

pub record Mirror (k : Buffering) (c : Case) (b : Board) (s : State) : Type 0 where
  pub settled : Settled s
  pub places : (p : ℕ) → s.places p ≡ some (b.places p)
  pub values : (p r : ℕ) → value_of s (s.names p r) ≡ b.values p r
  pub holders : (l : ℕ) → s.holders l ≡ b.holders l
  -- the write item whose value memory holds
  pub last : ℕ → ℕ
  pub last_there : (l : ℕ) → l < c.locs → last l < 8 + s.count
  pub last_writes : (l : ℕ) → l < c.locs → writes s l (last l) ≡ true
  pub last_value : (l : ℕ) → l < c.locs → item_value c s (last l) ≡ some (b.memory l)
  -- the actions that the stores of the buffers are
  pub items : ℕ → ℕ → List ℕ
  pub buffers : (p n : ℕ) → b.buffers p n ≡ map (store_of s) (items p n)
  pub ascends : (p n : ℕ) → Ascends (items p n)
  pub held : (p n j : ℕ) → Memᴰ j (items p n) → Held k c s p n j
  -- a later store of the same processor to the same location is buffered too
  pub later : (p n j i : ℕ) → Memᴰ j (items p n) → j < i → i < s.count → (s.actions i).proc ≡ p → writing (kind_of (s.actions i)) ≡ true → (s.actions i).loc ≡ (s.actions j).loc → Memᴰ i (items p n)
  -- only items of its own processor stand after a buffered store, and no release
  pub private : (p n j : ℕ) → Memᴰ j (items p n) → (l x : ℕ) → s.orders l (8 + j) x ≡ true → ((s.actions (x - 8)).proc ≡ p) × (releasing (kind_of (s.actions (x - 8))) ≡ false)
  -- a write item that stands after what memory holds is buffered
  pub newest : (l w : ℕ) → l < c.locs → s.orders l (last l) w ≡ true → writes s l w ≡ true → Buffered items w

pub writes_action : (s : State) (l j : ℕ) → writes s l (8 + j) ≡ true → (writing (kind_of (s.actions j)) ≡ true) × ((s.actions j).loc ≡ l)
writes_action s l j h =
    let w = and_both (writing (kind_of (s.actions j))) (eqb (s.actions j).loc l) (sym (item_high (eqb (8 + j) l) (λ a. writing (kind_of a) && eqb a.loc l) s j (8 + j) refl) ∙ h) in
    (w.0, eqb-true _ _ w.1)

pub action_writes : (s : State) (l j : ℕ) → writing (kind_of (s.actions j)) ≡ true → (s.actions j).loc ≡ l → writes s l (8 + j) ≡ true
action_writes s l j h e = item_high (eqb (8 + j) l) (λ a. writing (kind_of a) && eqb a.loc l) s j (8 + j) refl ∙ and_make _ _ h (eq-eqb _ _ e)

pub action_value : (c : Case) (s : State) (j : ℕ) → item_value c s (8 + j) ≡ (s.actions j).result
action_value c s j = cond-false (ltb (8 + j) 8) _ _ (le-ltb (8 + j) 8 (omega arith)) ∙ ap (λ (i : ℕ). (s.actions i).result) (omega arith)

pub known : (o : Option ℕ) → is_none o ≡ false → o ≡ some (or_zero o)
known none h = absurd (false≢true (sym h))
known (some v) h = refl

pub mirror_initial : (k : Buffering) (c : Case) → c.locs ≤ 8 → Mirror k c (opening c) (initial c)
mirror_initial k c low =
    record {
      settled = settled_initial c;
      places = λ p. refl;
      values = λ p r. refl;
      holders = λ l. refl;
      last = λ l. l;
      last_there = λ l h. omega arith;
      last_writes = λ l h. cond-true (ltb l 8) _ _ (lt-ltb l 8 (omega arith)) ∙ eq-eqb l l refl;
      last_value = λ l h. cond-true (ltb l 8) _ _ (lt-ltb l 8 (omega arith));
      items = λ p n. [];
      buffers = λ p n. refl;
      ascends = λ p n. tt;
      held = λ p n j m. absurd (Memᴰ.not-nil m);
      later = λ p n j i m. absurd (Memᴰ.not-nil m);
      private = λ p n j m. absurd (Memᴰ.not-nil m);
      newest = λ l w h r. absurd (false≢true r);
    }

module _ (k : Buffering) (c : Case) (b : Board) (s : State) (M : Mirror k c b s) (p n : ℕ) where
  -- action j is the oldest store of the buffer
  module _ (j : ℕ) (js : List ℕ) (e : M.items p n ≡ j ∷ js) where
    rest : ℕ → ℕ → List ℕ
    rest = put M.items p (put (M.items p) n js)

    mem : Memᴰ j (M.items p n)
    mem = subst (λ l. Memᴰ j l) (sym e) (Memᴰ.head refl)

    first : Held k c s p n j
    first = M.held p n j mem

    rest_cases : (q m : ℕ) → ((q ≡ p) × (m ≡ n) × (rest q m ≡ js)) ⊎ ((((q ≡ p) × (m ≡ n)) → ⊥) × (rest q m ≡ M.items q m))
    unfolding rest
    rest_cases q m = put2_cases M.items p n js q m

    fewer : (q m i : ℕ) → Memᴰ i (rest q m) → Memᴰ i (M.items q m)
    fewer q m i h = ⊎_elim (λ w. subst (λ l. Memᴰ i l) (sym (ap₂ M.items w.0 w.1 ∙ e)) (Memᴰ.tail (subst (λ l. Memᴰ i l) w.2 h))) (λ w. subst (λ l. Memᴰ i l) w.1 h) (rest_cases q m)

    stays : (q m i : ℕ) → (i ≡ j → ⊥) → Memᴰ i (M.items q m) → Memᴰ i (rest q m)
    stays q m i d h = ⊎_elim (λ w. subst (λ l. Memᴰ i l) (sym w.2) (⊎_elim (λ x. absurd (d x)) (λ x. x) (Memᴰ.cases_cons (subst (λ l. Memᴰ i l) (ap₂ M.items w.0 w.1 ∙ e) h)))) (λ w. subst (λ l. Memᴰ i l) (sym w.1) h) (rest_cases q m)

    -- what stands in its buffer after the oldest is above it
    above : (q m i : ℕ) → Memᴰ i (rest q m) → q ≡ p → m ≡ n → j < i
    above q m i h x y = ⊎_elim (λ w. ascending.0 i (subst (λ l. Memᴰ i l) w.2 h)) (λ w. absurd (w.0 (x, y))) (rest_cases q m)
      where
        ascending : Ascends (j ∷ js)
        ascending = subst Ascends e (M.ascends p n)

    abbrev l : ℕ
    l = (s.actions j).loc

    final : ℕ → ℕ
    final = put M.last l (8 + j)

    final_cases : (m : ℕ) → ((m ≡ l) × (final m ≡ 8 + j)) ⊎ ((m ≡ l → ⊥) × (final m ≡ M.last m))
    unfolding final
    final_cases m = ⊎_elim (λ h. inl (eqb-true _ _ h, put_same M.last l m _ (eqb-true _ _ h))) (λ h. inr (eqb-false _ _ h, put_other M.last l m _ (eqb-false _ _ h))) (decide (eqb m l))

    -- one location's stores of one processor are in one buffer
    one : (q m i : ℕ) → Held k c s q m i → q ≡ p → (s.actions i).loc ≡ l → m ≡ n
    one q m i h x y = ap or_zero (sym h.goes ∙ ap (slot k) y ∙ first.goes)

    later_rest : (q m i i' : ℕ) → Memᴰ i (rest q m) → i < i' → i' < s.count → (s.actions i').proc ≡ q → writing (kind_of (s.actions i')) ≡ true → (s.actions i').loc ≡ (s.actions i).loc → Memᴰ i' (rest q m)
    later_rest q m i i' h lt below mine wr at = stays q m i' differ (M.later q m i i' (fewer q m i h) lt below mine wr at)
      where
        differ : i' ≡ j → ⊥
        differ x =
            let y : q ≡ p = sym mine ∙ ap (λ (z : ℕ). (s.actions z).proc) x ∙ first.mine in
            let z : (s.actions i).loc ≡ l = sym at ∙ ap (λ (z : ℕ). (s.actions z).loc) x in
            omega (arith, above q m i h y (one q m i (M.held q m i (fewer q m i h)) y z))

    newest_rest : (m w : ℕ) → m < c.locs → s.orders m (final m) w ≡ true → writes s m w ≡ true → Buffered rest w
    newest_rest m w low r wr = ⊎_elim mine other (final_cases m)
      where
        mine : (m ≡ l) × (final m ≡ 8 + j) → Buffered rest w
        mine x =
            let r' : s.orders m (8 + j) w ≡ true = subst (λ (z : ℕ). s.orders m z w ≡ true) x.1 r in
            let u : 8 + j < w = M.settled.rising m (8 + j) w r' in
            let same : w ≡ 8 + (w - 8) = omega arith in
            let a = writes_action s m (w - 8) (subst (λ (z : ℕ). writes s m z ≡ true) same wr) in
            let i = M.later p n j (w - 8) mem (omega arith) (omega (arith, M.settled.bounded m (8 + j) w r')) (M.private p n j mem m w r').0 a.0 (a.1 ∙ x.0) in
            record { proc = p; buffer = n; store = w - 8; same = same; mem = stays p n (w - 8) (λ z. omega arith) i }

        other : (m ≡ l → ⊥) × (final m ≡ M.last m) → Buffered rest w
        other x =
            let o = M.newest m w low (subst (λ (z : ℕ). s.orders m z w ≡ true) x.1 r) wr in
            let a = writes_action s m o.store (subst (λ (z : ℕ). writes s m z ≡ true) o.same wr) in
            record { proc = o.proc; buffer = o.buffer; store = o.store; same = o.same; mem = stays o.proc o.buffer o.store (λ z. x.0 (sym a.1 ∙ ap (λ (i : ℕ). (s.actions i).loc) z)) o.mem }

    drain_oldest : Mirror k c (drained b p n (map (store_of s) (j ∷ js))) s
    unfolding rest final
    drain_oldest =
        record {
          settled = M.settled;
          places = M.places;
          values = M.values;
          holders = M.holders;
          last = final;
          last_there = λ m h. ⊎_elim (λ x. omega (arith, x.1, first.there)) (λ x. omega (arith, x.1, M.last_there m h)) (final_cases m);
          last_writes = λ m h. ⊎_elim (λ x. subst (λ (z : ℕ). writes s m z ≡ true) (sym x.1) (action_writes s m j first.writes (sym x.0))) (λ x. subst (λ (z : ℕ). writes s m z ≡ true) (sym x.1) (M.last_writes m h)) (final_cases m);
          last_value = value;
          items = rest;
          buffers = buffers;
          ascends = λ q m. ⊎_elim (λ w. subst Ascends (sym w.2) (subst Ascends e (M.ascends p n)).1) (λ w. subst Ascends (sym w.1) (M.ascends q m)) (rest_cases q m);
          held = λ q m i h. M.held q m i (fewer q m i h);
          later = later_rest;
          private = λ q m i h. M.private q m i (fewer q m i h);
          newest = newest_rest;
        }
      where
        value : (m : ℕ) → m < c.locs → item_value c s (final m) ≡ some (put b.memory l (or_zero (s.actions j).result) m)
        value m h = ⊎_elim (λ x. ap (item_value c s) x.1 ∙ action_value c s j ∙ known _ (M.settled.whole j first.there) ∙ ap some (sym (put_same b.memory l m _ x.0))) (λ x. ap (item_value c s) x.1 ∙ M.last_value m h ∙ ap some (sym (put_other b.memory l m _ x.0))) (final_cases m)

        buffers : (q m : ℕ) → put b.buffers p (put (b.buffers p) n (map (store_of s) js)) q m ≡ map (store_of s) (rest q m)
        buffers q m = ⊎_elim (λ w. ⊎_elim (λ v. v.2 ∙ ap (map (store_of s)) (sym w.2)) (λ v. absurd (v.0 (w.0, w.1))) (put2_cases b.buffers p n (map (store_of s) js) q m)) (λ w. ⊎_elim (λ v. absurd (w.0 (v.0, v.1))) (λ v. v.1 ∙ M.buffers q m ∙ ap (map (store_of s)) (sym w.1)) (put2_cases b.buffers p n (map (store_of s) js) q m)) (rest_cases q m)

  -- after a drain the same state mirrors the board
  pub drain_mirror : Mirror k c (drained b p n (b.buffers p n)) s
  drain_mirror = subst (λ xs. Mirror k c (drained b p n xs) s) (sym (M.buffers p n)) (go (M.items p n) refl)
    where
      go : (js : List ℕ) → M.items p n ≡ js → Mirror k c (drained b p n (map (store_of s) js)) s
      go [] e = M
      go (j ∷ js) e = drain_oldest j js e
