-- After an instruction the state with its issue and commit mirrors the board. Assumes nothing.
use mathlib.Core.Path.{◌≡◌, refl, sym, ◌∙◌, ap, ap₂, subst, fun_ext}
use mathlib.Core.Logic.{◌⊎◌, inl, inr, ⊎_elim}
use mathlib.Core.Bool.{Bool, true, false, cond, ◌&&◌}
use mathlib.Core.List.Memᴰ
use mathlib.Core.List.{List, [], ◌∷◌, ◌++◌, map, Memᴰ}
use mathlib.Core.Option.{Option, none, some}
use Prim.Native.Nat.{ℕ, suc, ◌+◌, ◌-◌, ◌<◌}
use native.Mathlib.Omega.{arith}
use lib.Dec.{eqb, ltb}
use borrow.Author.Tests.{ltb-false, eqb-true, eqb-false}
use Rattle.words.specs.Small.{or_zero, put}
use Rattle.words.proofs.Bools.{decide, below_make, cond-true}
use Rattle.cases.specs.Case.{word_of}
use Rattle.cases.specs.declared.Case.{Case}
use Rattle.cases.specs.declared.Instr.{Instr}
use Rattle.cases.specs.declared.Instr.TheVariants.{Read, Write, Local, Branch, Goto, Acquire, Release, Empty}
use Rattle.rules.specs.Commit.{committed, writes}
use Rattle.rules.specs.Issue.{issued, next, here, place_after, renamed, new_action}
use Rattle.rules.specs.Kinds.{kind, label_of, assigns, writing, acquiring, releasing, branching, accesses, syncs}
use Rattle.rules.specs.State.{State, Action, Name, kind_of, value_of, item_is, given, item_value}
use Rattle.rules.proofs.Actions.{issued_new}
use Rattle.boards.specs.Board.{slot, Store, Board, filled}
use Rattle.boards.specs.Run.{in_memory, in_buffer, assigned, instruction, operand, follows, yields, new_store, ran}
use Rattle.boards.specs.declared.Buffering.{Buffering}
use Rattle.boards.proofs.Accepted.{CanRun, keep_true, write_accesses, release_syncs, access_low}
use Rattle.boards.proofs.Buffers.{slot-low, entered_cases, stored_cases, write_yields}
use Rattle.inclusion.proofs.Mirror.{Held, Buffered, Mirror, writes_action, action_writes, action_value}
use Rattle.inclusion.proofs.Reading.{reach_own}
use Rattle.inclusion.proofs.Running.{Commit, same_next, same_here, same_address, same_input}
use Rattle.inclusion.proofs.Stores.{Ascends, ascends_more, map_same, map_more, store_of}
use Rattle.inclusion.proofs.Took.{Reaches, took, took_old, took_new, took_order, took_rising, took-count, took_settled, value-took, done_action}

-- what a commit of action a, whose first input is x, makes of place counters and locks
abbrev places_by : Action → ℕ → ℕ → (ℕ → Option ℕ) → ℕ → Option ℕ
places_by a p x f = cond (branching (kind_of a)) (put f p (some (cond (eqb x 0) (suc a.place) (label_of a.instr)))) f

abbrev holders_by : Action → ℕ → ℕ → (ℕ → Option ℕ) → ℕ → Option ℕ
holders_by a p x f = cond (syncs (kind_of a)) (put f x (cond (acquiring (kind_of a)) (some p) none)) f

module _ (k : Buffering) (c : Case) (b : Board) (s : State) (M : Mirror k c b s) (p : ℕ) where
  -- the place, in one step and in two
  module _ (q : ℕ) where
    plain : (x : Bool) (f : ℕ) → cond x (some f) (s.places q) ≡ some (cond x f (b.places q))
    plain true f = refl
    plain false f = M.places q

    turned : (x : Bool) (f : ℕ) → cond x (some f) (cond x none (s.places q)) ≡ some (cond x f (b.places q))
    turned true f = refl
    turned false f = M.places q

    placed : (i : Instr) → cond (branching (kind i)) (put (put s.places p (place_after i (b.places p))) p (some (cond (eqb (operand k c b p 0) 0) (suc (b.places p)) (label_of i)))) (put s.places p (place_after i (b.places p))) q ≡ some (put b.places p (follows k c b p i) q)
    placed Empty = plain (eqb q p) _
    placed (Read d a) = plain (eqb q p) _
    placed (Write a v) = plain (eqb q p) _
    placed (Local d e) = plain (eqb q p) _
    placed (Branch a l) = turned (eqb q p) (cond (eqb (operand k c b p 0) 0) (suc (b.places p)) l)
    placed (Goto l) = plain (eqb q p) l
    placed (Acquire a) = plain (eqb q p) _
    placed (Release a) = plain (eqb q p) _

module _
    (k : Buffering) (c : Case) (b : Board) (s : State) (M : Mirror k c b s) (p : ℕ) (R : CanRun k c b p)
    (C : Commit k c b s M p R)
  where
    abbrev e : ℕ
    e = C.source

    abbrev z : State
    z = took c s p e

    abbrev ins : Instr
    ins = instruction k c b p

    abbrev w : Bool
    w = writing (kind ins)

    abbrev l : ℕ
    l = operand k c b p 0

    old : (j : ℕ) → j < s.count → z.actions j ≡ s.actions j
    old j h = took_old c s M.settled p e j (λ x. omega arith)

    new : z.actions s.count ≡ done_action c s M.settled p e
    new = took_new c s M.settled p e

    count : z.count ≡ suc s.count
    count = took-count c s M.settled p e

    order : (m x y : ℕ) → z.orders m x y ≡ true → (s.orders m x y ≡ true) ⊎ ((y ≡ 8 + s.count) × Reaches c s p m x)
    order = took_order c s M.settled p e

    new_proc : (z.actions s.count).proc ≡ p
    new_proc = ap (λ (a : Action). a.proc) new

    new_kind : kind_of (z.actions s.count) ≡ kind ins
    new_kind = ap kind_of new ∙ ap kind (same_next k c b s M p R)

    new_loc : w ≡ true → (z.actions s.count).loc ≡ l
    new_loc h = ap (λ (a : Action). a.loc) new ∙ cond-true _ _ _ (ap (λ (i : Instr). accesses (kind i)) (same_next k c b s M p R) ∙ write_accesses (kind ins) h) ∙ ap or_zero (same_address k c b s M p R)

    new_result : (z.actions s.count).result ≡ some (yields k c b p ins)
    new_result = ap (λ (a : Action). a.result) new ∙ ap some C.value

    -- places, registers and locks

    places-took : z.places ≡ places_by (new_action c s p) p l (put s.places p (place_after (next c s p) (here c s p)))
    unfolding committed issued
    places-took = ap₂ (λ (a : Action) (x : ℕ). places_by a p x (put s.places p (place_after (next c s p) (here c s p)))) (issued_new c s p) (same_input k c b s M p R e 0)

    places-kept : (q : ℕ) → z.places q ≡ some (put b.places p (follows k c b p ins) q)
    places-kept q =
        ap (λ (f : ℕ → Option ℕ). f q) places-took
        ∙ ap₂ (λ (i : Instr) (h : ℕ). cond (branching (kind i)) (put (put s.places p (place_after i h)) p (some (cond (eqb l 0) (suc h) (label_of i)))) (put s.places p (place_after i h)) q) (same_next k c b s M p R) (same_here k c b s M p R)
        ∙ placed k c b s M p q ins

    names-took : z.names ≡ put s.names p (renamed (s.names p) (assigns (next c s p)) (given s.count))
    unfolding committed issued
    names-took = refl

    value-kept : (q r : ℕ) → value_of z (s.names q r) ≡ b.values q r
    value-kept q r = value-took c s M.settled p e (s.names q r) (M.settled.named q r) ∙ M.values q r

    named : (q r : ℕ) (o : Option ℕ) (x : Bool) → eqb q p ≡ x → value_of z (cond x (renamed (s.names p) o (given s.count)) (s.names q) r) ≡ cond x (assigned (b.values p) o (some (yields k c b p ins))) (b.values q) r
    named q r o false h = value-kept q r
    named q r none true h = value-kept p r
    named q r (some d) true h = step (eqb r d)
      where
        step : (y : Bool) → value_of z (cond y (given s.count) (s.names p r)) ≡ cond y (some (yields k c b p ins)) (b.values p r)
        step true = new_result
        step false = value-kept p r

    values_kept : (q r : ℕ) → value_of z (z.names q r) ≡ put b.values p (assigned (b.values p) (assigns ins) (some (yields k c b p ins))) q r
    values_kept q r = ap (λ (f : ℕ → ℕ → Name). value_of z (f q r)) names-took ∙ ap (λ (i : Instr). value_of z (put s.names p (renamed (s.names p) (assigns i) (given s.count)) q r)) (same_next k c b s M p R) ∙ named q r (assigns ins) (eqb q p) refl

    holders_took : z.holders ≡ holders_by (new_action c s p) p l s.holders
    unfolding committed issued
    holders_took = ap₂ (λ (a : Action) (x : ℕ). holders_by a p x s.holders) (issued_new c s p) (same_input k c b s M p R e 0)

    holders_kept : (m : ℕ) → z.holders m ≡ cond (syncs (kind ins)) (put b.holders l (cond (acquiring (kind ins)) (some p) none)) b.holders m
    holders_kept m =
        ap (λ (f : ℕ → Option ℕ). f m) holders_took
        ∙ ap₂ (λ (i : Instr) (f : ℕ → Option ℕ). cond (syncs (kind i)) (put f l (cond (acquiring (kind i)) (some p) none)) f m) (same_next k c b s M p R) (fun_ext M.holders)

    -- items

    item_took : (x : Bool) (f : Action → Bool) (y : ℕ) → y < 8 + s.count → item_is x f z y ≡ item_is x f s y
    item_took x f y h = step (ltb y 8) refl
      where
        step : (q : Bool) → ltb y 8 ≡ q → cond q x (f (z.actions (y - 8))) ≡ cond q x (f (s.actions (y - 8)))
        step true q = refl
        step false q = ap f (old (y - 8) (omega (arith, ltb-false y 8 q)))

    value_item : (y : ℕ) → y < 8 + s.count → item_value c z y ≡ item_value c s y
    value_item y h = step (ltb y 8) refl
      where
        step : (q : Bool) → ltb y 8 ≡ q → cond q (some (word_of c y)) (z.actions (y - 8)).result ≡ cond q (some (word_of c y)) (s.actions (y - 8)).result
        step true q = refl
        step false q = ap (λ (a : Action). a.result) (old (y - 8) (omega (arith, ltb-false y 8 q)))

    writes-took : (m y : ℕ) → y < 8 + s.count → writes z m y ≡ writes s m y
    writes-took m y h = item_took (eqb y m) (λ a. writing (kind_of a) && eqb a.loc m) y h

    -- the buffers

    items : ℕ → ℕ → List ℕ
    items = cond w (put M.items p (in_buffer (slot k l) (M.items p) s.count)) M.items

    items_cases : (q m : ℕ) → ((q ≡ p) × (w ≡ true) × (slot k l ≡ some m) × (items q m ≡ M.items q m ++ (s.count ∷ []))) ⊎ ((q ≡ p → w ≡ true → slot k l ≡ some m → ⊥) × (items q m ≡ M.items q m))
    unfolding items
    items_cases q m = entered_cases M.items w (slot k l) s.count p q m

    -- it is the new store, or was there before
    mem_cases : (q m j : ℕ) → Memᴰ j (items q m) → ((j ≡ s.count) × (q ≡ p) × (w ≡ true) × (slot k l ≡ some m)) ⊎ Memᴰ j (M.items q m)
    mem_cases q m j h = ⊎_elim (λ x. ⊎_elim (λ y. inr y) (λ y. inl (Memᴰ.eq_of_singleton y, x.0, x.1, x.2)) (Memᴰ.append_cases (M.items q m) (subst (λ y. Memᴰ j y) x.3 h))) (λ x. inr (subst (λ y. Memᴰ j y) x.1 h)) (items_cases q m)

    mem_old : (q m j : ℕ) → Memᴰ j (M.items q m) → Memᴰ j (items q m)
    mem_old q m j h = ⊎_elim (λ x. subst (λ y. Memᴰ j y) (sym x.3) (Memᴰ.append_left (s.count ∷ []) h)) (λ x. subst (λ y. Memᴰ j y) (sym x.1) h) (items_cases q m)

    mem_new : (q m : ℕ) → q ≡ p → w ≡ true → slot k l ≡ some m → Memᴰ s.count (items q m)
    mem_new q m x y v = ⊎_elim (λ h. subst (λ y. Memᴰ s.count y) (sym h.3) (Memᴰ.append_right (M.items q m) (Memᴰ.head refl))) (λ h. absurd (h.0 x y v)) (items_cases q m)

    ascends_kept : (q m : ℕ) → Ascends (items q m)
    ascends_kept q m = ⊎_elim (λ x. subst Ascends (sym x.3) (ascends_more s.count (M.items q m) (M.ascends q m) (λ y h. (M.held q m y h).there))) (λ x. subst Ascends (sym x.1) (M.ascends q m)) (items_cases q m)

    store_new : w ≡ true → store_of z s.count ≡ new_store k c b p
    store_new h = λ i. record { loc = new_loc h i; value = (ap or_zero new_result ∙ write_yields k c b p ins h) i }

    stores_old : (q m : ℕ) → map (store_of z) (M.items q m) ≡ b.buffers q m
    stores_old q m = map_same (store_of z) (store_of s) (M.items q m) (λ j h. ap (λ (a : Action). record { loc = a.loc; value = or_zero a.result }) (old j (M.held q m j h).there)) ∙ sym (M.buffers q m)

    buffers_kept : (q m : ℕ) → cond w (put b.buffers p (in_buffer (slot k l) (b.buffers p) (new_store k c b p))) b.buffers q m ≡ map (store_of z) (items q m)
    buffers_kept q m = step (items_cases q m) (entered_cases b.buffers w (slot k l) (new_store k c b p) p q m)
      where
        B : List Store
        B = cond w (put b.buffers p (in_buffer (slot k l) (b.buffers p) (new_store k c b p))) b.buffers q m

        step : ((q ≡ p) × (w ≡ true) × (slot k l ≡ some m) × (items q m ≡ M.items q m ++ (s.count ∷ []))) ⊎ ((q ≡ p → w ≡ true → slot k l ≡ some m → ⊥) × (items q m ≡ M.items q m))
            → ((q ≡ p) × (w ≡ true) × (slot k l ≡ some m) × (B ≡ b.buffers q m ++ (new_store k c b p ∷ []))) ⊎ ((q ≡ p → w ≡ true → slot k l ≡ some m → ⊥) × (B ≡ b.buffers q m))
            → B ≡ map (store_of z) (items q m)
        step (inl x) (inl y) = y.3 ∙ ap₂ (λ (f : List Store) (g : Store). f ++ (g ∷ [])) (sym (stores_old q m)) (sym (store_new x.1)) ∙ sym (map_more (store_of z) (M.items q m) s.count) ∙ ap (map (store_of z)) (sym x.3)
        step (inl x) (inr y) = absurd (y.0 x.0 x.1 x.2)
        step (inr x) (inl y) = absurd (x.0 y.0 y.1 y.2)
        step (inr x) (inr y) = y.1 ∙ sym (stores_old q m) ∙ ap (map (store_of z)) (sym x.1)

    near : w ≡ true → l < c.locs
    near h = access_low k c b p R (write_accesses (kind ins) h)

    held_kept : (q m j : ℕ) → Memᴰ j (items q m) → Held k c z q m j
    held_kept q m j h = ⊎_elim (λ x. subst (λ (i : ℕ). Held k c z q m i) (sym x.0) (fresh x.1 x.2 x.3)) before (mem_cases q m j h)
      where
        fresh : q ≡ p → w ≡ true → slot k l ≡ some m → Held k c z q m s.count
        fresh x y v =
            record {
              there = omega (arith, count);
              mine = new_proc ∙ sym x;
              writes = ap writing new_kind ∙ y;
              goes = ap (slot k) (new_loc y) ∙ v;
              low = omega (arith, near y, slot-low k l m v);
            }

        before : Memᴰ j (M.items q m) → Held k c z q m j
        before x =
            let H = M.held q m j x in
            let same = old j H.there in
            record {
              there = omega (arith, count, H.there);
              mine = ap (λ (a : Action). a.proc) same ∙ H.mine;
              writes = ap (λ (a : Action). writing (kind_of a)) same ∙ H.writes;
              goes = ap (λ (a : Action). slot k a.loc) same ∙ H.goes;
              low = H.low;
            }

    later_kept : (q m j i : ℕ) → Memᴰ j (items q m) → j < i → i < z.count → (z.actions i).proc ≡ q → writing (kind_of (z.actions i)) ≡ true → (z.actions i).loc ≡ (z.actions j).loc → Memᴰ i (items q m)
    later_kept q m j i h lt below mine wr same = ⊎_elim (λ x. absurd (omega (arith, x.0, count))) before (mem_cases q m j h)
      where
        before : Memᴰ j (M.items q m) → Memᴰ i (items q m)
        before x = ⊎_elim (λ y. last (eqb-true _ _ y)) (λ y. earlier' (omega (arith, count, eqb-false i s.count y))) (decide (eqb i s.count))
          where
            H : Held k c s q m j
            H = M.held q m j x

            at' : (z.actions i).loc ≡ (s.actions j).loc
            at' = same ∙ ap (λ (a : Action). a.loc) (old j H.there)

            last : i ≡ s.count → Memᴰ i (items q m)
            last y =
                let v : w ≡ true = ap writing (sym new_kind) ∙ subst (λ (n : ℕ). writing (kind_of (z.actions n)) ≡ true) y wr in
                subst (λ (n : ℕ). Memᴰ n (items q m)) (sym y) (mem_new q m (sym mine ∙ ap (λ (n : ℕ). (z.actions n).proc) y ∙ new_proc) v (ap (slot k) (sym (new_loc v) ∙ ap (λ (n : ℕ). (z.actions n).loc) (sym y) ∙ at') ∙ H.goes))

            earlier' : i < s.count → Memᴰ i (items q m)
            earlier' y = mem_old q m i (M.later q m j i x lt y (ap (λ (a : Action). a.proc) (sym (old i y)) ∙ mine) (ap (λ (a : Action). writing (kind_of a)) (sym (old i y)) ∙ wr) (ap (λ (a : Action). a.loc) (sym (old i y)) ∙ at'))

    -- a processor with a store in a buffer neither acquires nor releases
    quiet : (m j : ℕ) → Memᴰ j (M.items p m) → syncs (kind ins) ≡ false
    quiet m j h = keep_true (syncs (kind ins)) _ R.empty (below_make c.locs (λ n. filled (b.buffers p n)) m (M.held p m j h).low (ap filled (M.buffers p m) ∙ filled-map (M.items p m) h))
      where
        filled-map : (xs : List ℕ) → Memᴰ j xs → filled (map (store_of s) xs) ≡ true
        filled-map [] h = absurd (Memᴰ.not-nil h)
        filled-map (y ∷ ys) h = refl

    private_kept : (q m j : ℕ) → Memᴰ j (items q m) → (n x : ℕ) → z.orders n (8 + j) x ≡ true → ((z.actions (x - 8)).proc ≡ q) × (releasing (kind_of (z.actions (x - 8))) ≡ false)
    private_kept q m j h n x r = ⊎_elim (λ y. absurd (omega (arith, y.0, rising, bound'))) (λ y. ⊎_elim (before y) (fresh y) (order n (8 + j) x r)) (mem_cases q m j h)
      where
        rising : 8 + j < x
        rising = took_rising c s M.settled p e n (8 + j) x r

        bound' : x < 8 + suc s.count
        bound' = ⊎_elim (λ y. omega (arith, M.settled.bounded n (8 + j) x y)) (λ y. omega (arith, y.0)) (order n (8 + j) x r)

        before : Memᴰ j (M.items q m) → s.orders n (8 + j) x ≡ true → ((z.actions (x - 8)).proc ≡ q) × (releasing (kind_of (z.actions (x - 8))) ≡ false)
        before y o =
            let v = M.private q m j y n x o in
            let same = old (x - 8) (omega (arith, rising, M.settled.bounded n (8 + j) x o)) in
            (ap (λ (a : Action). a.proc) same ∙ v.0, ap (λ (a : Action). releasing (kind_of a)) same ∙ v.1)

        fresh : Memᴰ j (M.items q m) → (x ≡ 8 + s.count) × Reaches c s p n (8 + j) → ((z.actions (x - 8)).proc ≡ q) × (releasing (kind_of (z.actions (x - 8))) ≡ false)
        fresh y o =
            let own : q ≡ p = reach_own k c b s M p q m j n y o.1 in
            let at' : x - 8 ≡ s.count = omega (arith, o.0) in
            (ap (λ (i : ℕ). (z.actions i).proc) at' ∙ new_proc ∙ sym own, ap (λ (i : ℕ). releasing (kind_of (z.actions i))) at' ∙ ap releasing new_kind ∙ release_syncs (kind ins) (quiet m j (subst (λ (i : ℕ). Memᴰ j (M.items i m)) own y)))

    -- memory

    last : ℕ → ℕ
    last = cond w (in_memory (slot k l) M.last (record { loc = l; value = 8 + s.count })) M.last

    last_cases : (m : ℕ) → ((w ≡ true) × (slot k l ≡ none) × (m ≡ l) × (last m ≡ 8 + s.count)) ⊎ ((w ≡ true → slot k l ≡ none → m ≡ l → ⊥) × (last m ≡ M.last m))
    unfolding last
    last_cases m = stored_cases M.last w (slot k l) (record { loc = l; value = 8 + s.count }) m

    last_there : (m : ℕ) → m < c.locs → last m < 8 + z.count
    last_there m h = ⊎_elim (λ x. omega (arith, x.3, count)) (λ x. omega (arith, x.1, count, M.last_there m h)) (last_cases m)

    last_writes : (m : ℕ) → m < c.locs → writes z m (last m) ≡ true
    last_writes m h = ⊎_elim (λ x. ap (writes z m) x.3 ∙ action_writes z m s.count (ap writing new_kind ∙ x.0) (new_loc x.0 ∙ sym x.2)) (λ x. ap (writes z m) x.1 ∙ writes-took m (M.last m) (M.last_there m h) ∙ M.last_writes m h) (last_cases m)

    last_value : (m : ℕ) → m < c.locs → item_value c z (last m) ≡ some (cond w (in_memory (slot k l) b.memory (new_store k c b p)) b.memory m)
    last_value m h = step (last_cases m) (stored_cases b.memory w (slot k l) (new_store k c b p) m)
      where
        B : ℕ
        B = cond w (in_memory (slot k l) b.memory (new_store k c b p)) b.memory m

        step : ((w ≡ true) × (slot k l ≡ none) × (m ≡ l) × (last m ≡ 8 + s.count)) ⊎ ((w ≡ true → slot k l ≡ none → m ≡ l → ⊥) × (last m ≡ M.last m))
            → ((w ≡ true) × (slot k l ≡ none) × (m ≡ l) × (B ≡ operand k c b p 1)) ⊎ ((w ≡ true → slot k l ≡ none → m ≡ l → ⊥) × (B ≡ b.memory m))
            → item_value c z (last m) ≡ some B
        step (inl x) (inl y) = ap (item_value c z) x.3 ∙ action_value c z s.count ∙ new_result ∙ ap some (write_yields k c b p ins x.0 ∙ sym y.3)
        step (inl x) (inr y) = absurd (y.0 x.0 x.1 x.2)
        step (inr x) (inl y) = absurd (x.0 y.0 y.1 y.2)
        step (inr x) (inr y) = ap (item_value c z) x.1 ∙ value_item (M.last m) (M.last_there m h) ∙ M.last_value m h ∙ ap some (sym y.1)

    newest-kept : (m v : ℕ) → m < c.locs → z.orders m (last m) v ≡ true → writes z m v ≡ true → Buffered items v
    newest-kept m v low r wr = ⊎_elim own other (last_cases m)
      where
        own : (w ≡ true) × (slot k l ≡ none) × (m ≡ l) × (last m ≡ 8 + s.count) → Buffered items v
        own x =
            let u : last m < v = took_rising c s M.settled p e m (last m) v r in
            absurd (⊎_elim (λ y. omega (arith, x.3, M.settled.rising m (last m) v y, M.settled.bounded m (last m) v y)) (λ y. omega (arith, x.3, y.0)) (order m (last m) v r))

        other : (w ≡ true → slot k l ≡ none → m ≡ l → ⊥) × (last m ≡ M.last m) → Buffered items v
        other x = ⊎_elim before fresh (order m (M.last m) v (subst (λ (n : ℕ). z.orders m n v ≡ true) x.1 r))
          where
            before : s.orders m (M.last m) v ≡ true → Buffered items v
            before y =
                let o = M.newest m v low y (sym (writes-took m v (M.settled.bounded m (M.last m) v y)) ∙ wr) in
                record { proc = o.proc; buffer = o.buffer; store = o.store; same = o.same; mem = mem_old o.proc o.buffer o.store o.mem }

            fresh : (v ≡ 8 + s.count) × Reaches c s p m (M.last m) → Buffered items v
            fresh y = go (slot k l) refl
              where
                a : (writing (kind_of (z.actions s.count)) ≡ true) × ((z.actions s.count).loc ≡ m)
                a = writes_action z m s.count (subst (λ (n : ℕ). writes z m n ≡ true) y.0 wr)

                wt : w ≡ true
                wt = ap writing (sym new_kind) ∙ a.0

                go : (o : Option ℕ) → slot k l ≡ o → Buffered items v
                go none h = absurd (x.0 wt h (sym a.1 ∙ new_loc wt))
                go (some n) h = record { proc = p; buffer = n; store = s.count; same = y.0; mem = mem_new p n refl wt h }

    pub run_mirror : Mirror k c (ran k c b p) z
    unfolding ran items last
    run_mirror =
        record {
          settled = took_settled c s M.settled p e;
          places = places-kept;
          values = values_kept;
          holders = holders_kept;
          last = last;
          last_there = last_there;
          last_writes = last_writes;
          last_value = last_value;
          items = items;
          buffers = buffers_kept;
          ascends = ascends_kept;
          held = held_kept;
          later = later_kept;
          private = private_kept;
          newest = newest-kept;
        }
