-- How many stores wait: an instruction adds one at most, a drain takes one away; and all moves. Assumes nothing.
use mathlib.Core.Path.{◌≡◌, refl, sym, ◌∙◌, ap, ap₂}
use mathlib.Core.Logic.{◌⊎◌, inl, inr, ⊎_elim}
use mathlib.Core.Bool.{true, false, false≢true}
use mathlib.Core.List.{List, [], ◌∷◌, map, Memᴰ}
use mathlib.Core.Option.{Option, none, some}
use Prim.Native.Nat.{ℕ, zero, suc, ◌+◌, ◌≤◌, ◌<◌}
use native.Mathlib.Omega.{arith}
use lib.Dec.{eqb}
use lib.ListN.{length, length-append}
use borrow.Author.Tests.{leb-false, eqb-true, eqb-false}
use Rattle.words.specs.Small.{is_none, or_zero, put, counting, concat_map}
use Rattle.words.proofs.Bools.{decide}
use Rattle.cases.specs.declared.Case.{Case}
use Rattle.cases.specs.declared.Instr.{Instr}
use Rattle.runs.proofs.Search.{concat_map_make}
use Rattle.rules.specs.Kinds.{kind, writing}
use Rattle.rules.proofs.Accepted.{counting_mem}
use Rattle.boards.specs.Board.{slot, Store, Board, opening, filled}
use Rattle.boards.specs.Drain.{drained}
use Rattle.boards.specs.Machine.{Move, run, drain, allowed, moved}
use Rattle.boards.specs.Waiting.{sum_to, held}
use Rattle.boards.specs.Run.{instruction, operand, new_store, ran}
use Rattle.boards.specs.declared.Buffering.{Buffering}
use Rattle.boards.proofs.Accepted.{CanRun, can_run, write_accesses, access_low, CanDrain, can_drain}
use Rattle.boards.proofs.Buffers.{slot-low, put2_cases, entered_cases}

sum_same : (n : ℕ) (g h : ℕ → ℕ) → ((i : ℕ) → i < n → g i ≡ h i) → sum_to n g ≡ sum_to n h
unfolding sum_to
sum_same zero g h e = refl
sum_same (suc n) g h e = ap₂ ◌+◌ (e n (omega arith)) (sum_same n g h (λ i l. e i (omega arith)))

zero_sum : (n : ℕ) (g : ℕ → ℕ) → ((i : ℕ) → g i ≡ 0) → sum_to n g ≡ 0
unfolding sum_to
zero_sum zero g h = refl
zero_sum (suc n) g h = omega (arith, h n, zero_sum n g h)

-- two that differ at i alone
sum_at : (n i x y : ℕ) (g h : ℕ → ℕ) → i < n → g i + x ≡ h i + y → ((j : ℕ) → (j ≡ i → ⊥) → g j ≡ h j) → sum_to n g + x ≡ sum_to n h + y
unfolding sum_to
sum_at zero i x y g h l e f = absurd (omega arith)
sum_at (suc n) i x y g h l e f = ⊎_elim
    (λ q. let s = eqb-true n i q in omega (arith, e, ap g s, ap h s, sum_same n g h (λ j m. f j (λ z. omega arith))))
    (λ q. omega (arith, f n (eqb-false n i q), sum_at n i x y g h (omega (arith, eqb-false n i q)) e f))
    (decide (eqb n i))

module _ (c : Case) where
  held_at : (f g : ℕ → ℕ → List Store) (p n x y : ℕ) → p < c.procs → n < c.locs → length (f p n) + x ≡ length (g p n) + y → ((q m : ℕ) → ((q ≡ p) × (m ≡ n) → ⊥) → f q m ≡ g q m) → held c f + x ≡ held c g + y
  unfolding held
  held_at f g p n x y lp ln e d =
      sum_at c.procs p x y (λ q. sum_to c.locs (λ m. length (f q m))) (λ q. sum_to c.locs (λ m. length (g q m))) lp
      (sum_at c.locs n x y (λ m. length (f p m)) (λ m. length (g p m)) ln e (λ m h. ap length (d p m (λ z. h z.1))))
      (λ q h. sum_same c.locs (λ m. length (f q m)) (λ m. length (g q m)) (λ m l. ap length (d q m (λ z. h z.0))))

  held_same : (f g : ℕ → ℕ → List Store) → ((q m : ℕ) → f q m ≡ g q m) → held c f ≡ held c g
  unfolding held
  held_same f g e = sum_same c.procs _ _ (λ q l. sum_same c.locs (λ m. length (f q m)) (λ m. length (g q m)) (λ m k. ap length (e q m)))

module _ (k : Buffering) (c : Case) where
  -- an instruction adds at most one
  pub held-run : (b : Board) (p : ℕ) → CanRun k c b p → held c (ran k c b p).buffers ≤ held c b.buffers + 1
  unfolding ran
  held-run b p R = by_slot (decide (writing (kind ins))) (slot k l) refl
    where
      ins : Instr
      ins = instruction k c b p

      l : ℕ
      l = operand k c b p 0

      new : ℕ → ℕ → List Store
      new = (ran k c b p).buffers

      same : ((n : ℕ) → writing (kind (instruction k c b p)) ≡ true → slot k (operand k c b p 0) ≡ some n → ⊥) → held c new ≤ held c b.buffers + 1
      same f = omega (arith, held_same c new b.buffers (λ q m. ⊎_elim (λ h. absurd (f m h.1 h.2)) (λ h. h.1) (entered_cases b.buffers (writing (kind (instruction k c b p))) (slot k (operand k c b p 0)) (new_store k c b p) p q m)))

      by_slot : (writing (kind ins) ≡ true) ⊎ (writing (kind ins) ≡ false) → (o : Option ℕ) → slot k l ≡ o → held c new ≤ held c b.buffers + 1
      by_slot (inr w) o e = same (λ n h _. false≢true (sym w ∙ h))
      by_slot (inl w) none e = same (λ n _ h. false≢true (ap is_none (sym h ∙ e)))
      by_slot (inl w) (some n) e = omega (arith, held_at c new b.buffers p n 0 1 (leb-false _ _ R.low) (omega (arith, near, slot-low k l n e)) (grown) others)
        where
          near : l < c.locs
          near = access_low k c b p R (write_accesses (kind ins) w)

          grown : length (new p n) + 0 ≡ length (b.buffers p n) + 1
          grown = ⊎_elim (λ h. omega (arith, ap length h.3, length-append (b.buffers p n) (new_store k c b p ∷ []))) (λ h. absurd (h.0 refl w e)) (entered_cases b.buffers (writing (kind (instruction k c b p))) (slot k (operand k c b p 0)) (new_store k c b p) p p n)

          others : (q m : ℕ) → ((q ≡ p) × (m ≡ n) → ⊥) → new q m ≡ b.buffers q m
          others q m d = ⊎_elim (λ h. absurd (d (h.0, ap or_zero (sym h.2 ∙ e)))) (λ h. h.1) (entered_cases b.buffers (writing (kind (instruction k c b p))) (slot k (operand k c b p 0)) (new_store k c b p) p q m)

  -- a drain takes one away
  pub held_drain : (b : Board) (p n : ℕ) → allowed k c b (drain p n) ≡ true → held c (moved k c b (drain p n)).buffers + 1 ≡ held c b.buffers
  unfolding moved
  held_drain b p n h = by_list (b.buffers p n) refl
    where
      D : CanDrain c b p n
      D = can_drain k c b p n h

      by_list : (xs : List Store) → b.buffers p n ≡ xs → held c (drained b p n xs).buffers + 1 ≡ held c b.buffers
      by_list [] e = absurd (false≢true (sym (ap filled e) ∙ D.holds))
      by_list (x ∷ xs) e = omega (arith, held_at c (put b.buffers p (put (b.buffers p) n xs)) b.buffers p n 1 0 D.proc D.buffer shrunk (λ q m d. ⊎_elim (λ h. absurd (d (h.0, h.1))) (λ h. h.1) (put2_cases b.buffers p n xs q m)))
        where
          shrunk : length (put b.buffers p (put (b.buffers p) n xs) p n) + 1 ≡ length (b.buffers p n) + 0
          shrunk = ⊎_elim (λ h. omega (arith, ap length h.2, ap length e)) (λ h. absurd (h.0 (refl, refl))) (put2_cases b.buffers p n xs p n)

-- all moves
unfoldable pub moves : Case → List Move
moves c = concat_map (λ p. run p ∷ map (drain p) (counting 0 c.locs)) (counting 0 c.procs)

mem_map : {A B : Type 0} (f : A → B) {x : A} {l : List A} → Memᴰ x l → Memᴰ (f x) (map f l)
mem_map f (Memᴰ.head e) = Memᴰ.head (ap f e)
mem_map f (Memᴰ.tail m) = Memᴰ.tail (mem_map f m)

module _ (k : Buffering) (c : Case) where
  pub moves_all : (b : Board) (m : Move) → allowed k c b m ≡ true → Memᴰ m (moves c)
  unfolding moves
  moves_all b (run p) h =
      let low : p < c.procs = leb-false c.procs p (can_run k c b p h).low in
      concat_map_make (λ p. run p ∷ map (drain p) (counting 0 c.locs)) (counting_mem c.procs 0 p (omega arith) (omega (arith, low))) (Memᴰ.head refl)
  moves_all b (drain p n) h =
      let D = can_drain k c b p n h in
      concat_map_make (λ p. run p ∷ map (drain p) (counting 0 c.locs)) (counting_mem c.procs 0 p (omega arith) (omega (arith, D.proc))) (Memᴰ.tail (mem_map (drain p) (counting_mem c.locs 0 n (omega arith) (omega (arith, D.buffer)))))

  pub empty : held c (opening c).buffers ≡ 0
  unfolding held
  empty = zero_sum c.procs _ (λ p. zero_sum c.locs _ (λ n. refl))
