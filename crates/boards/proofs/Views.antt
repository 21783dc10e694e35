-- A board seen from one processor: its own parts, and what all share; a move as a change of that view. Assumes nothing.
use mathlib.Core.Path.{◌≡◌, refl, sym, ◌∙◌, ap, fun_ext}
use mathlib.Core.Logic.{⊎_elim}
use mathlib.Core.Bool.{Bool, true, false, cond}
use mathlib.Core.List.{List, [], ◌∷◌}
use mathlib.Core.Option.{Option, none, some}
use Prim.Native.Nat.{ℕ}
use lib.Dec.{eqb}
use borrow.Author.Tests.{eqb-true, eqb-false}
use Rattle.words.specs.Small.{put}
use Rattle.words.proofs.Bools.{decide, put_same, put_other}
use Rattle.cases.specs.declared.Case.{Case}
use Rattle.cases.specs.declared.Instr.{Instr}
use Rattle.cases.specs.declared.Instr.TheVariants.{Empty, Read, Write, Local, Branch, Goto, Acquire, Release}
use Rattle.rules.specs.Kinds.{kind, assigns, writing, acquiring, syncs}
use Rattle.boards.specs.declared.Buffering.{Buffering}
use Rattle.boards.specs.Board.{slot, Store, Board, pending, or_else}
use Rattle.boards.specs.Drain.{drained}
use Rattle.boards.specs.Machine.{Move, run, drain, allowed, moved}
use Rattle.boards.specs.Run.{in_memory, in_buffer, assigned, instruction, operand, bars, follows, yields, new_store, ran}
use Rattle.boards.specs.Apart.{who}
use Rattle.boards.proofs.Buffers.{same-board}

-- the parts of one processor, and the locks and the memory that all share
pub record View : Type 0 where
  pub place : ℕ
  pub vals : ℕ → Option ℕ
  pub locks : ℕ → Option ℕ
  pub mem : ℕ → ℕ
  pub bufs : ℕ → List Store

abbrev pub board : View → Board
board v = record { places = λ p. v.place; values = λ p. v.vals; holders = v.locks; memory = v.mem; buffers = λ p. v.bufs }

abbrev pub view : Board → ℕ → View
view b p = record { place = b.places p; vals = b.values p; locks = b.holders; mem = b.memory; bufs = b.buffers p }

abbrev pub set : Board → ℕ → View → Board
set b p v = record { places = put b.places p v.place; values = put b.values p v.vals; holders = v.locks; memory = v.mem; buffers = put b.buffers p v.bufs }

-- the parts of a processor alone, with locks and memory of another view
abbrev pub lent : View → View → View
lent v w = record { place = v.place; vals = v.vals; locks = w.locks; mem = w.mem; bufs = v.bufs }

put_id : {A : Type 0} (f : ℕ → A) (i j : ℕ) → put f i (f i) j ≡ f j
put_id f i j = ⊎_elim (λ e. put_same f i j (f i) (eqb-true _ _ e) ∙ ap f (sym (eqb-true _ _ e))) (λ e. put_other f i j (f i) (eqb-false _ _ e)) (decide (eqb j i))

put_put : {A : Type 0} (f : ℕ → A) (i : ℕ) (v w : A) (j : ℕ) → put (put f i v) i w j ≡ put f i w j
put_put f i v w j = step (eqb j i)
  where
    step : (x : Bool) → cond x w (cond x v (f j)) ≡ cond x w (f j)
    step true = refl
    step false = refl

pub view-own : (b : Board) (p : ℕ) (v : View) → view (set b p v) p ≡ v
view-own b p v = λ i. record { place = put_same b.places p p v.place refl i; vals = put_same b.values p p v.vals refl i; locks = v.locks; mem = v.mem; bufs = put_same b.buffers p p v.bufs refl i }

pub view_other : (b : Board) (p q : ℕ) (v : View) → (q ≡ p → ⊥) → view (set b p v) q ≡ lent (view b q) v
view_other b p q v d = λ i. record { place = put_other b.places p q v.place d i; vals = put_other b.values p q v.vals d i; locks = v.locks; mem = v.mem; bufs = put_other b.buffers p q v.bufs d i }

pub set-set : (b : Board) (p : ℕ) (v w : View) → set (set b p v) p w ≡ set b p w
set-set b p v w = same-board (set (set b p v) p w) (set b p w) (fun_ext λ j. put_put b.places p v.place w.place j) (fun_ext λ j. put_put b.values p v.vals w.vals j) refl refl (λ q m. ap (λ (f : ℕ → List Store). f m) (put_put b.buffers p v.bufs w.bufs q))

module _ (k : Buffering) (c : Case) where
  abbrev pub run_view : ℕ → View → View
  run_view p v =
      let b = board v in
      let i = instruction k c b p in
      record {
        place = follows k c b p i;
        vals = assigned v.vals (assigns i) (some (yields k c b p i));
        locks = cond (syncs (kind i)) (put v.locks (operand k c b p 0) (cond (acquiring (kind i)) (some p) none)) v.locks;
        mem = cond (writing (kind i)) (in_memory (slot k (operand k c b p 0)) v.mem (new_store k c b p)) v.mem;
        bufs = cond (writing (kind i)) (in_buffer (slot k (operand k c b p 0)) v.bufs (new_store k c b p)) v.bufs;
      }

  abbrev pub drain_view : ℕ → View → List Store → View
  drain_view n v [] = v
  drain_view n v (x ∷ xs) = record { place = v.place; vals = v.vals; locks = v.locks; mem = put v.mem x.loc x.value; bufs = put v.bufs n xs }

  abbrev pub effect : Move → View → View
  effect (run p) v = run_view p v
  effect (drain p n) v = drain_view n v (v.bufs n)

  follows_view : (b : Board) (p : ℕ) (i : Instr) → follows k c b p i ≡ follows k c (board (view b p)) p i
  follows_view b p Empty = refl
  follows_view b p (Read d a) = refl
  follows_view b p (Write a v) = refl
  follows_view b p (Local d e) = refl
  follows_view b p (Branch a l) = refl
  follows_view b p (Goto l) = refl
  follows_view b p (Acquire a) = refl
  follows_view b p (Release a) = refl

  pending-view : (b : Board) (p l : ℕ) (o : Option ℕ) → pending b p l o ≡ pending (board (view b p)) p l o
  pending-view b p l none = refl
  pending-view b p l (some n) = refl

  yields_view : (b : Board) (p : ℕ) (i : Instr) → yields k c b p i ≡ yields k c (board (view b p)) p i
  yields_view b p Empty = refl
  yields_view b p (Read d a) = ap (λ (o : Option ℕ). or_else o (b.memory (operand k c b p 0))) (pending-view b p (operand k c b p 0) (slot k (operand k c b p 0)))
  yields_view b p (Write a v) = refl
  yields_view b p (Local d e) = refl
  yields_view b p (Branch a l) = refl
  yields_view b p (Goto l) = refl
  yields_view b p (Acquire a) = refl
  yields_view b p (Release a) = refl

  -- A MOVE CHANGES THE VIEW OF ITS PROCESSOR, and rests on it alone
  pub moved_set : (b : Board) (m : Move) → moved k c b m ≡ set b (who m) (effect m (view b (who m)))
  unfolding moved ran
  moved_set b (run p) =
      same-board (ran k c b p) (set b p (run_view p (view b p)))
      (ap (put b.places p) (follows_view b p (instruction k c b p)))
      (ap (λ (v : ℕ). put b.values p (assigned (b.values p) (assigns (instruction k c b p)) (some v))) (yields_view b p (instruction k c b p)))
      refl refl (λ q m. by_kind (writing (kind (instruction k c b p))) q m)
    where
      by_kind : (w : Bool) (q m : ℕ) → cond w (put b.buffers p (in_buffer (slot k (operand k c b p 0)) (b.buffers p) (new_store k c b p))) b.buffers q m ≡ put b.buffers p (cond w (in_buffer (slot k (operand k c b p 0)) (b.buffers p) (new_store k c b p)) (b.buffers p)) q m
      by_kind true q m = refl
      by_kind false q m = ap (λ (f : ℕ → List Store). f m) (sym (put_id b.buffers p q))
  moved_set b (drain p n) = by_list (b.buffers p n)
    where
      places : b.places ≡ put b.places p (b.places p)
      places = fun_ext λ q. sym (put_id b.places p q)

      values : b.values ≡ put b.values p (b.values p)
      values = fun_ext λ q. sym (put_id b.values p q)

      by_list : (xs : List Store) → drained b p n xs ≡ set b p (drain_view n (view b p) xs)
      by_list [] = same-board b (set b p (view b p)) places values refl refl (λ q m. ap (λ (f : ℕ → List Store). f m) (sym (put_id b.buffers p q)))
      by_list (x ∷ xs) = same-board (drained b p n (x ∷ xs)) (set b p (drain_view n (view b p) (x ∷ xs))) places values refl refl (λ q m. refl)

  pub allowed_view : (b : Board) (m : Move) → allowed k c b m ≡ allowed k c (board (view b (who m))) m
  unfolding allowed bars
  allowed_view b (run p) = refl
  allowed_view b (drain p n) = refl

  -- two moves of two processors, one after the other
  pub after_other : (b : Board) (m z : Move) → (who z ≡ who m → ⊥)
      → moved k c (moved k c b m) z ≡ set (set b (who m) (effect m (view b (who m)))) (who z) (effect z (lent (view b (who z)) (effect m (view b (who m)))))
  after_other b m z d =
      ap (λ x. moved k c x z) (moved_set b m)
      ∙ moved_set (set b (who m) (effect m (view b (who m)))) z
      ∙ ap (λ x. set (set b (who m) (effect m (view b (who m)))) (who z) (effect z x)) (view_other b (who m) (who z) (effect m (view b (who m))) d)

  pub allowed_other : (b : Board) (m z : Move) → (who z ≡ who m → ⊥) → allowed k c (moved k c b m) z ≡ allowed k c (board (lent (view b (who z)) (effect m (view b (who m))))) z
  allowed_other b m z d =
      ap (λ x. allowed k c x z) (moved_set b m)
      ∙ allowed_view (set b (who m) (effect m (view b (who m)))) z
      ∙ ap (λ x. allowed k c (board x) z) (view_other b (who m) (who z) (effect m (view b (who m))) d)

  -- and of one
  pub after-own : (b : Board) (m z : Move) → who z ≡ who m → moved k c (moved k c b m) z ≡ set b (who m) (effect z (effect m (view b (who m))))
  after-own b m z e =
      ap (λ x. moved k c x z) (moved_set b m)
      ∙ moved_set (set b (who m) (effect m (view b (who m)))) z
      ∙ ap (λ (q : ℕ). set (set b (who m) (effect m (view b (who m)))) q (effect z (view (set b (who m) (effect m (view b (who m)))) q))) e
      ∙ ap (λ x. set (set b (who m) (effect m (view b (who m)))) (who m) (effect z x)) (view-own b (who m) (effect m (view b (who m))))
      ∙ set-set b (who m) (effect m (view b (who m))) (effect z (effect m (view b (who m))))

  pub allowed_own : (b : Board) (m z : Move) → who z ≡ who m → allowed k c (moved k c b m) z ≡ allowed k c (board (effect m (view b (who m)))) z
  allowed_own b m z e =
      ap (λ x. allowed k c x z) (moved_set b m)
      ∙ allowed_view (set b (who m) (effect m (view b (who m)))) z
      ∙ ap (λ (q : ℕ). allowed k c (board (view (set b (who m) (effect m (view b (who m)))) q)) z) e
      ∙ ap (λ x. allowed k c (board x) z) (view-own b (who m) (effect m (view b (who m))))
