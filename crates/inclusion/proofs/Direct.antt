-- The outcomes of the machine without buffers are among those of each kind of buffer. Assumes nothing.
use mathlib.Core.Path.{◌≡◌, refl, sym, ◌∙◌, ap, subst}
use mathlib.Core.Logic.{◌⊎◌, inl, inr, ⊎_elim}
use mathlib.Core.Bool.{true, false, cond, false≢true}
use mathlib.Core.List.{List, [], ◌∷◌, ◌++◌}
use mathlib.Core.Option.{Option, none, some}
use Prim.Native.Nat.{ℕ, suc}
use native.Mathlib.Omega.{arith}
use borrow.Author.Tests.{leb-false}
use Rattle.words.specs.Small.{is_none, or_zero, put}
use Rattle.words.proofs.Bools.{decide, cond-true, cond-false}
use Rattle.cases.specs.declared.Case.{Case}
use Rattle.cases.specs.declared.Instr.{Instr}
use Rattle.cases.specs.declared.Instr.TheVariants.{Read, Write, Local, Branch, Goto, Acquire, Release, Empty}
use Rattle.runs.proofs.Walk.{stop, go}
use Rattle.rules.specs.Kinds.{kind, assigns, writing}
use Rattle.boards.specs.Board.{slot, Board, opening, newest_to, pending, or_else, seen, filled}
use Rattle.boards.specs.Drain.{drained}
use Rattle.boards.specs.Listing.{instructions, Outcome}
use Rattle.boards.specs.Machine.{Move, run, drain, allowed, moved}
use Rattle.boards.specs.Run.{in_memory, in_buffer, assigned, instruction, operand, bars, yields, new_store, ran}
use Rattle.boards.specs.declared.Buffering.{Buffering}
use Rattle.boards.specs.declared.Buffering.TheVariants.{Direct}
use Rattle.boards.proofs.Accepted.{CanRun, can_run, write_accesses, Runs, access_low, drain_make, can_drain, code_allowed, move_first}
use Rattle.boards.proofs.Buffers.{put2_cases, slot-low, entered_cases, same-board}
use Rattle.boards.proofs.Stable.{outcome_of, outcome_run}

module _ (k : Buffering) (c : Case) (b : Board) (E : (p n : ℕ) → b.buffers p n ≡ []) (p : ℕ) where
  seen_same : (l : ℕ) → seen k b p l ≡ seen Direct b p l
  unfolding newest_to
  seen_same l = ap (λ (o : Option ℕ). or_else o (b.memory l)) (by_slot (slot k l))
    where
      by_slot : (o : Option ℕ) → pending b p l o ≡ none
      by_slot none = refl
      by_slot (some n) = ap (newest_to l) (E p n)

  yields_same : (i : Instr) → yields k c b p i ≡ yields Direct c b p i
  yields_same Empty = refl
  yields_same (Read d a) = seen_same (operand k c b p 0)
  yields_same (Write a v) = refl
  yields_same (Local d e) = refl
  yields_same (Branch a l) = refl
  yields_same (Goto l) = refl
  yields_same (Acquire a) = refl
  yields_same (Release a) = refl

  abbrev ins : Instr
  ins = instruction k c b p

  abbrev l : ℕ
  l = operand k c b p 0

  values_same : (ran k c b p).values ≡ (ran Direct c b p).values
  unfolding ran
  values_same = ap (λ (v : ℕ). put b.values p (assigned (b.values p) (assigns ins) (some v))) (yields_same ins)

  pub still_empty : (q m : ℕ) → (ran Direct c b p).buffers q m ≡ []
  unfolding ran
  still_empty q m = ⊎_elim (λ h. absurd (false≢true (sym (ap is_none h.2)))) (λ h. h.1 ∙ E q m) (entered_cases b.buffers (writing (kind ins)) none (new_store k c b p) p q m)

  -- an instruction that is no write, or whose store is not buffered
  plain : (writing (kind ins) ≡ false) ⊎ (slot k l ≡ none) → ran k c b p ≡ ran Direct c b p
  unfolding ran
  plain h = same-board (ran k c b p) (ran Direct c b p) refl values_same refl (memory h) (λ q m. buffers h q m ∙ sym (still_empty q m))
    where
      memory : (writing (kind ins) ≡ false) ⊎ (slot k l ≡ none) → cond (writing (kind ins)) (in_memory (slot k l) b.memory (new_store k c b p)) b.memory ≡ cond (writing (kind ins)) (in_memory none b.memory (new_store k c b p)) b.memory
      memory (inl e) = cond-false _ _ _ e ∙ sym (cond-false _ _ _ e)
      memory (inr e) = ap (λ (o : Option ℕ). cond (writing (kind ins)) (in_memory o b.memory (new_store k c b p)) b.memory) e

      buffers : (writing (kind ins) ≡ false) ⊎ (slot k l ≡ none) → (q m : ℕ) → cond (writing (kind ins)) (put b.buffers p (in_buffer (slot k l) (b.buffers p) (new_store k c b p))) b.buffers q m ≡ []
      buffers g q m = ⊎_elim (λ x. absurd (⊎_elim (λ y. false≢true (sym y ∙ x.1)) (λ y. false≢true (ap is_none (sym x.2 ∙ y))) g)) (λ x. x.1 ∙ E q m) (entered_cases b.buffers (writing (kind ins)) (slot k l) (new_store k c b p) p q m)

  -- a store that is buffered, and drained at once
  module _ (n : ℕ) (w : writing (kind ins) ≡ true) (e : slot k l ≡ some n) where
    alone : (ran k c b p).buffers p n ≡ new_store k c b p ∷ []
    unfolding ran
    alone = ⊎_elim (λ h. h.3 ∙ ap (λ xs. xs ++ (new_store k c b p ∷ [])) (E p n)) (λ h. absurd (h.0 refl w e)) (entered_cases b.buffers (writing (kind ins)) (slot k l) (new_store k c b p) p p n)

    others : (q m : ℕ) → ((q ≡ p) × (m ≡ n) → ⊥) → (ran k c b p).buffers q m ≡ []
    unfolding ran
    others q m d = ⊎_elim (λ h. absurd (d (h.0, ap or_zero (sym h.2 ∙ e)))) (λ h. h.1 ∙ E q m) (entered_cases b.buffers (writing (kind ins)) (slot k l) (new_store k c b p) p q m)

    memory_buffered : (ran k c b p).memory ≡ b.memory
    unfolding ran
    memory_buffered = cond-true _ _ _ w ∙ ap (λ (o : Option ℕ). in_memory o b.memory (new_store k c b p)) e

    memory_direct : (ran Direct c b p).memory ≡ put b.memory l (operand k c b p 1)
    unfolding ran
    memory_direct = cond-true _ _ _ w

    places_same : (ran k c b p).places ≡ (ran Direct c b p).places
    unfolding ran
    places_same = refl

    holders_same : (ran k c b p).holders ≡ (ran Direct c b p).holders
    unfolding ran
    holders_same = refl

    drained-same : moved k c (ran k c b p) (drain p n) ≡ ran Direct c b p
    unfolding moved
    drained-same =
        ap (drained (ran k c b p) p n) alone
        ∙ same-board (drained (ran k c b p) p n (new_store k c b p ∷ [])) (ran Direct c b p) places_same values_same holders_same (ap (λ (f : ℕ → ℕ). put f l (operand k c b p 1)) memory_buffered ∙ sym memory_direct) (λ q m. buffers q m ∙ sym (still_empty q m))
      where
        buffers : (q m : ℕ) → put (ran k c b p).buffers p (put ((ran k c b p).buffers p) n []) q m ≡ []
        buffers q m = ⊎_elim (λ h. h.2) (λ h. h.1 ∙ others q m h.0) (put2_cases (ran k c b p).buffers p n [] q m)

    drain_allowed : CanRun k c b p → allowed k c (ran k c b p) (drain p n) ≡ true
    drain_allowed R = drain_make k c (ran k c b p) p n (record { proc = leb-false _ _ R.low; buffer = omega (arith, access_low k c b p R (write_accesses (kind ins) w), slot-low k l n e); holds = ap filled alone })

-- the same run with each store drained at once
pub record Redone (k : Buffering) (c : Case) (b e : Board) (n : ℕ) : Type 0 where
  pub moves : List Move
  pub walk : Runs k c b moves e
  pub same : instructions moves ≡ n

module _ (k : Buffering) (c : Case) where
  run-same : (b : Board) (p : ℕ) → allowed Direct c b (run p) ≡ true → allowed k c b (run p) ≡ true
  unfolding allowed bars
  run-same b p h = h

  pub once : (b e : Board) (p n : ℕ) → allowed k c b (run p) ≡ true → Redone k c (ran k c b p) e n → Redone k c b e (suc n)
  unfolding instructions moved
  once b e p n h r = record { moves = run p ∷ r.moves; walk = move_first k c b (run p) h r.walk; same = ap suc r.same }

  pub drain_first : (b e : Board) (p m n : ℕ) → allowed k c b (drain p m) ≡ true → Redone k c (moved k c b (drain p m)) e n → Redone k c b e n
  unfolding instructions
  drain_first b e p m n h r = record { moves = drain p m ∷ r.moves; walk = move_first k c b (drain p m) h r.walk; same = r.same }

  instruct : (b : Board) → ((p n : ℕ) → b.buffers p n ≡ []) → (p n : ℕ) (e : Board) → allowed Direct c b (run p) ≡ true → Redone k c (ran Direct c b p) e n → Redone k c b e (suc n)
  instruct b E p n e h r = once b e p n h' (⊎_elim buffered (λ w. subst (λ x. Redone k c x e n) (sym (plain k c b E p (inl w))) r) (decide (writing (kind (instruction k c b p)))))
    where
      h' : allowed k c b (run p) ≡ true
      h' = run-same b p h

      buffered : writing (kind (instruction k c b p)) ≡ true → Redone k c (ran k c b p) e n
      buffered w = by_slot (slot k (operand k c b p 0)) refl
        where
          by_slot : (o : Option ℕ) → slot k (operand k c b p 0) ≡ o → Redone k c (ran k c b p) e n
          by_slot none q = subst (λ x. Redone k c x e n) (sym (plain k c b E p (inr q))) r
          by_slot (some m) q = drain_first (ran k c b p) e p m n (drain_allowed k c b E p m w q (can_run k c b p h')) (subst (λ x. Redone k c x e n) (sym (drained-same k c b E p m w q)) r)

  redo : (ms : List Move) (b e : Board) → ((p n : ℕ) → b.buffers p n ≡ []) → Runs Direct c b ms e → Redone k c b e (instructions ms)
  unfolding instructions moved
  redo [] b e E (stop h) = record { moves = []; walk = stop h; same = refl }
  redo (run p ∷ ms) b e E (go h w) = instruct b E p (instructions ms) e (code_allowed Direct c b (run p) h) (redo ms (ran Direct c b p) e (still_empty Direct c b E p) w)
  redo (drain p n ∷ ms) b e E (go h w) = absurd (false≢true (sym (ap filled (E p n)) ∙ (can_drain Direct c b p n (code_allowed Direct c b (drain p n) h)).holds))

  pub direct_within : (n : ℕ) (r : List ℕ) → Outcome Direct c n r → Outcome k c n r
  direct_within n r o =
      let d = redo o.moves (opening c) o.end (λ p m. refl) (outcome_run Direct c o) in
      outcome_of k c d.walk (omega (arith, d.same, o.short)) o.done o.gives
