-- A read or a quiet instruction may change places with a drain of its own processor, and two drains may. Assumes nothing.
use mathlib.Core.Path.{◌≡◌, refl, sym, ◌∙◌, ap, ap₂}
use mathlib.Core.Logic.{⊎_elim}
use mathlib.Core.Bool.{Bool, true, false, cond, ◌&&◌, false≢true}
use mathlib.Core.List.{List, [], ◌∷◌, ◌++◌}
use mathlib.Core.Option.{Option, none, some}
use Prim.Native.Nat.{ℕ}
use lib.Dec.{eqb}
use borrow.Author.Tests.{eqb-true, eqb-false}
use Rattle.words.specs.Small.{is_none, or_zero, put}
use Rattle.words.proofs.Bools.{decide, put_same, put_other, put_swap}
use Rattle.cases.specs.declared.Case.{Case}
use Rattle.cases.specs.declared.Instr.{Instr}
use Rattle.cases.specs.declared.Instr.TheVariants.{Empty, Read, Write, Local, Branch, Goto, Acquire, Release}
use Rattle.rules.specs.Kinds.{kind, assigns, reading, writing, syncs}
use Rattle.boards.specs.declared.Buffering.{Buffering}
use Rattle.boards.specs.Board.{slot, Store, Board, filled, newer, or_else, newest_to, pending, seen}
use Rattle.boards.specs.Machine.{run, drain, allowed}
use Rattle.boards.specs.Run.{in_buffer, assigned, instruction, operand, holding, follows, yields, new_store}
use Rattle.boards.proofs.Accepted.{CanRun, can_run, run_make, can_drain, drain_make}
use Rattle.boards.proofs.Views.{View, board, view, set, run_view, drain_view, effect, after-own, allowed_own, allowed_view}
use Rattle.boards.proofs.Footprints.{entering}
use Rattle.boards.proofs.Crossing.{Crossing}

-- the view after the oldest store x of buffer n is drained
module _ (k : Buffering) (c : Case) (n : ℕ) (v : View) (x : Store) (xs : List Store) (e : v.bufs n ≡ x ∷ xs) where
  abbrev after : View
  after = drain_view k c n v (x ∷ xs)

  -- WHAT ITS PROCESSOR SEES stays: the store was the oldest of its buffer, and is now in memory
  pub seen-drained : slot k x.loc ≡ some n → (p l : ℕ) → seen k (board after) p l ≡ seen k (board v) p l
  unfolding newest_to
  seen-drained placed p l = by_slot (slot k l) refl
    where
      elsewhere : (slot k l ≡ slot k x.loc → ⊥) → put v.mem x.loc x.value l ≡ v.mem l
      elsewhere f = put_other v.mem x.loc l x.value (λ q. f (ap (slot k) q))

      by_loc : (t : Bool) → eqb x.loc l ≡ t → put v.mem x.loc x.value l ≡ or_else (cond t (some x.value) none) (v.mem l)
      by_loc true h = put_same v.mem x.loc l x.value (sym (eqb-true x.loc l h))
      by_loc false h = put_other v.mem x.loc l x.value (λ q. eqb-false x.loc l h (sym q))

      by_newest : (o : Option ℕ) → or_else o (put v.mem x.loc x.value l) ≡ or_else (newer o (cond (eqb x.loc l) (some x.value) none)) (v.mem l)
      by_newest none = by_loc (eqb x.loc l) refl
      by_newest (some w) = refl

      by_slot : (o : Option ℕ) → slot k l ≡ o → or_else (pending (board after) p l o) (put v.mem x.loc x.value l) ≡ or_else (pending (board v) p l o) (v.mem l)
      by_slot none h = elsewhere (λ q. false≢true (sym (ap is_none (sym h ∙ q ∙ placed))))
      by_slot (some j) h = ⊎_elim (λ t. same (eqb-true j n t)) (λ t. other (eqb-false j n t)) (decide (eqb j n))
        where
          same : j ≡ n → or_else (newest_to l (put v.bufs n xs j)) (put v.mem x.loc x.value l) ≡ or_else (newest_to l (v.bufs j)) (v.mem l)
          same q =
              ap (λ (s : List Store). or_else (newest_to l s) (put v.mem x.loc x.value l)) (put_same v.bufs n j xs q)
              ∙ by_newest (newest_to l xs)
              ∙ ap (λ (s : List Store). or_else (newest_to l s) (v.mem l)) (sym e ∙ ap v.bufs (sym q))

          other : (j ≡ n → ⊥) → or_else (newest_to l (put v.bufs n xs j)) (put v.mem x.loc x.value l) ≡ or_else (newest_to l (v.bufs j)) (v.mem l)
          other f = ap₂ (λ (s : List Store) (w : ℕ). or_else (newest_to l s) w) (put_other v.bufs n j xs f) (elsewhere (λ q. f (ap or_zero (sym h ∙ q ∙ placed))))

  module _ (p : ℕ) where
    abbrev i : Instr
    i = instruction k c (board v) p

    abbrev o : Option ℕ
    o = slot k (operand k c (board v) p 0)

    abbrev y : Store
    y = new_store k c (board v) p

    yields_drained : (j : Instr) → (reading (kind j) ≡ true → seen k (board after) p (operand k c (board v) p 0) ≡ seen k (board v) p (operand k c (board v) p 0)) → yields k c (board after) p j ≡ yields k c (board v) p j
    yields_drained Empty h = refl
    yields_drained (Read d a) h = h refl
    yields_drained (Write a w) h = refl
    yields_drained (Local d f) h = refl
    yields_drained (Branch a l) h = refl
    yields_drained (Goto l) h = refl
    yields_drained (Acquire a) h = refl
    yields_drained (Release a) h = refl

    follows_drained : (j : Instr) → follows k c (board after) p j ≡ follows k c (board v) p j
    follows_drained Empty = refl
    follows_drained (Read d a) = refl
    follows_drained (Write a w) = refl
    follows_drained (Local d f) = refl
    follows_drained (Branch a l) = refl
    follows_drained (Goto l) = refl
    follows_drained (Acquire a) = refl
    follows_drained (Release a) = refl

    -- what is left of the buffer after both
    rest : Bool → Option ℕ → List Store
    rest false o = xs
    rest true none = xs
    rest true (some j) = cond (eqb n j) (xs ++ (y ∷ [])) xs

    grown : (w : Bool) (o : Option ℕ) → cond w (in_buffer o v.bufs y) v.bufs n ≡ x ∷ rest w o
    unfolding rest
    grown false o = e
    grown true none = e
    grown true (some j) = step (eqb n j) refl
      where
        step : (z : Bool) → eqb n j ≡ z → cond z (v.bufs j ++ (y ∷ [])) (v.bufs n) ≡ x ∷ cond z (xs ++ (y ∷ [])) xs
        step true h = ap (λ t. t ++ (y ∷ [])) (ap v.bufs (sym (eqb-true _ _ h)) ∙ e)
        step false h = e

    bufs_meet : (w : Bool) (o : Option ℕ) (m : ℕ) → cond w (in_buffer o (put v.bufs n xs) y) (put v.bufs n xs) m ≡ put (cond w (in_buffer o v.bufs y) v.bufs) n (rest w o) m
    unfolding rest
    bufs_meet false o m = refl
    bufs_meet true none m = refl
    bufs_meet true (some j) m = step (eqb m j) (eqb m n) (eqb n j) refl refl refl
      where
        step : (u t z : Bool) → eqb m j ≡ u → eqb m n ≡ t → eqb n j ≡ z → cond u (put v.bufs n xs j ++ (y ∷ [])) (cond t xs (v.bufs m)) ≡ cond t (cond z (xs ++ (y ∷ [])) xs) (cond u (v.bufs j ++ (y ∷ [])) (v.bufs m))
        step true true true f g h = ap (λ t. t ++ (y ∷ [])) (put_same v.bufs n j xs (sym (eqb-true _ _ h)))
        step true true false f g h = absurd (eqb-false n j h (sym (eqb-true m n g) ∙ eqb-true m j f))
        step true false z f g h = ap (λ t. t ++ (y ∷ [])) (put_other v.bufs n j xs (λ q. eqb-false m n g (eqb-true m j f ∙ q)))
        step false true true f g h = absurd (eqb-false m j f (eqb-true m n g ∙ eqb-true n j h))
        step false true false f g h = refl
        step false false z f g h = refl

    -- an instruction that keeps what it yields, and whose store, if it is one, enters a buffer
    module _ (same : reading (kind i) ≡ true → seen k (board after) p (operand k c (board v) p 0) ≡ seen k (board v) p (operand k c (board v) p 0)) (enters : writing (kind i) ≡ true → is_none o ≡ false) where
      views_meet : drain_view k c n (run_view k c p v) ((run_view k c p v).bufs n) ≡ run_view k c p after
      views_meet = ap (drain_view k c n (run_view k c p v)) (grown (writing (kind i)) o) ∙ sym (λ t. record {
        place = follows_drained i t;
        vals = assigned v.vals (assigns i) (some (yields_drained i same t));
        locks = (run_view k c p v).locks;
        mem = mem t;
        bufs = λ m. bufs_meet (writing (kind i)) o m t;
      })
        where
          mem : (run_view k c p after).mem ≡ put (run_view k c p v).mem x.loc x.value
          mem =
              entering (writing (kind i)) o (put v.mem x.loc x.value) y enters
              ∙ ap (λ (f : ℕ → ℕ). put f x.loc x.value) (sym (entering (writing (kind i)) o v.mem y enters))

      still_filled : filled ((run_view k c p v).bufs n) ≡ true
      still_filled = ap filled (grown (writing (kind i)) o)

      still_free : syncs (kind i) ≡ false → CanRun k c (board v) p → CanRun k c (board after) p
      still_free s R = record { low = R.low; inside = R.inside; ready = R.ready; near = R.near; free = R.free; empty = ap (λ (t : Bool). t && holding k c (board after) p) s }

-- AN INSTRUCTION AND A DRAIN of its processor
module _ (k : Buffering) (c : Case) (b : Board) (p n : ℕ) (x : Store) (xs : List Store) (e : b.buffers p n ≡ x ∷ xs) where
  pub crossing-own : (reading (kind (instruction k c b p)) ≡ true → slot k x.loc ≡ some n) → syncs (kind (instruction k c b p)) ≡ false
      → (writing (kind (instruction k c b p)) ≡ true → is_none (slot k (operand k c b p 0)) ≡ false)
      → allowed k c b (run p) ≡ true → allowed k c b (drain p n) ≡ true → Crossing k c b (run p) (drain p n)
  crossing-own placed unsync enters ar ad =
      let v = view b p in
      let same : reading (kind (instruction k c b p)) ≡ true → seen k (board (drain_view k c n (view b p) (x ∷ xs))) p (operand k c b p 0) ≡ seen k (board (view b p)) p (operand k c b p 0) = λ h. seen-drained k c n (view b p) x xs e (placed h) p (operand k c b p 0) in
      let D = can_drain k c b p n ad in
      let drained = ap (drain_view k c n v) e in
      record {
        later = allowed_own k c b (run p) (drain p n) refl ∙ drain_make k c (board (run_view k c p v)) p n (record { proc = D.proc; buffer = D.buffer; holds = still_filled k c n v x xs e p same enters });
        sooner = allowed_own k c b (drain p n) (run p) refl ∙ ap (λ (w : View). allowed k c (board w) (run p)) drained
            ∙ run_make k c (board (drain_view k c n v (x ∷ xs))) p (still_free k c n v x xs e p same enters unsync (can_run k c (board v) p (sym (allowed_view k c b (run p)) ∙ ar)));
        meets = after-own k c b (run p) (drain p n) refl ∙ ap (set b p) (views_meet k c n v x xs e p same enters ∙ sym (ap (run_view k c p) drained)) ∙ sym (after-own k c b (drain p n) (run p) refl);
      }

-- TWO DRAINS of one processor, of stores to two locations
module _ (k : Buffering) (c : Case) (b : Board) (p n m : ℕ) (d : n ≡ m → ⊥) (x y : Store) (xs ys : List Store) (e : b.buffers p n ≡ x ∷ xs) (f : b.buffers p m ≡ y ∷ ys) where
  pub crossing-drains : (x.loc ≡ y.loc → ⊥) → allowed k c b (drain p n) ≡ true → allowed k c b (drain p m) ≡ true → Crossing k c b (drain p n) (drain p m)
  crossing-drains far an am =
      let v = view b p in
      let N = can_drain k c b p n an in
      let M = can_drain k c b p m am in
      let first = ap (drain_view k c n v) e in
      let second = ap (drain_view k c m v) f in
      let left : put (b.buffers p) n xs m ≡ y ∷ ys = put_other (b.buffers p) n m xs (λ q. d (sym q)) ∙ f in
      let right : put (b.buffers p) m ys n ≡ x ∷ xs = put_other (b.buffers p) m n ys d ∙ e in
      let both : drain_view k c m (drain_view k c n v (x ∷ xs)) (y ∷ ys) ≡ drain_view k c n (drain_view k c m v (y ∷ ys)) (x ∷ xs) = λ i. record {
        place = b.places p;
        vals = b.values p;
        locks = b.holders;
        mem = put_swap b.memory x.loc y.loc x.value y.value far i;
        bufs = put_swap (b.buffers p) n m xs ys d i;
      } in
      record {
        later = allowed_own k c b (drain p n) (drain p m) refl ∙ ap (λ (w : View). allowed k c (board w) (drain p m)) first
            ∙ drain_make k c (board (drain_view k c n v (x ∷ xs))) p m (record { proc = M.proc; buffer = M.buffer; holds = ap filled left });
        sooner = allowed_own k c b (drain p m) (drain p n) refl ∙ ap (λ (w : View). allowed k c (board w) (drain p n)) second
            ∙ drain_make k c (board (drain_view k c m v (y ∷ ys))) p n (record { proc = N.proc; buffer = N.buffer; holds = ap filled right });
        meets =
            after-own k c b (drain p n) (drain p m) refl
            ∙ ap (set b p)
            (ap (effect k c (drain p m)) first
            ∙ ap (drain_view k c m (drain_view k c n v (x ∷ xs))) left
            ∙ both
            ∙ sym (ap (drain_view k c n (drain_view k c m v (y ∷ ys))) right)
            ∙ sym (ap (effect k c (drain p n)) second))
            ∙ sym (after-own k c b (drain p m) (drain p n) refl);
      }
