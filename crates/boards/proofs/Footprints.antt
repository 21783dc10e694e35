-- What a move leaves as it is, and what it rests on: the location that it touches, and its own processor's parts. Assumes nothing.
use mathlib.Core.Path.{◌≡◌, refl, sym, ◌∙◌, ap, ap₂}
use mathlib.Core.Bool.{Bool, true, false, cond, not, ◌&&◌, ◌||◌, false≢true}
use mathlib.Core.List.{List, [], ◌∷◌}
use mathlib.Core.Option.{Option, none, some}
use Prim.Native.Nat.{ℕ}
use borrow.Author.Tests.{eqb-true, eqb-false, eq-eqb, not-true}
use Rattle.words.specs.Small.{is, is_none, put}
use Rattle.words.proofs.Bools.{and_both, and_rest, or_none, put_same, put_other, cond-false}
use Rattle.cases.specs.declared.Case.{Case}
use Rattle.cases.specs.declared.Instr.{Instr}
use Rattle.cases.specs.declared.Instr.TheVariants.{Empty, Read, Write, Local, Branch, Goto, Acquire, Release}
use Rattle.rules.specs.Kinds.{kind, assigns, reading, writing, acquiring, releasing, syncs}
use Rattle.rules.specs.Commit.{barred}
use Rattle.boards.specs.declared.Buffering.{Buffering}
use Rattle.boards.specs.Board.{slot, Store, pending, or_else}
use Rattle.boards.specs.Machine.{Move, run, drain, allowed}
use Rattle.boards.specs.Run.{in_memory, assigned, instruction, operand, follows, yields, new_store}
use Rattle.boards.specs.Quiet.{quiet}
use Rattle.boards.specs.Apart.{oldest_at, touches}
use Rattle.boards.proofs.Accepted.{can_run, run_make}
use Rattle.boards.proofs.Views.{View, board, view, lent, run_view, drain_view, effect}

-- what two views share at a location, if there is one
pub record Agree (o : Option ℕ) (v w : View) : Type 0 where
  pub locks : (l : ℕ) → is l o ≡ true → w.locks l ≡ v.locks l
  pub mem : (l : ℕ) → is l o ≡ true → w.mem l ≡ v.mem l

-- a store that enters a buffer leaves memory
pub entering : (x : Bool) (o : Option ℕ) (m : ℕ → ℕ) (y : Store) → (x ≡ true → is_none o ≡ false) → cond x (in_memory o m y) m ≡ m
entering false o m y h = refl
entering true none m y h = absurd (false≢true (sym (h refl)))
entering true (some n) m y h = refl

module _ (k : Buffering) (c : Case) where
  -- move m, from a view with the parts v of its processor, touches o alone
  pub record Foot (m : Move) (v : View) (o : Option ℕ) : Type 0 where
    -- elsewhere it changes nothing
    pub keeps_locks : (w : View) (l : ℕ) → is l o ≡ false → (effect k c m (lent v w)).locks l ≡ w.locks l
    pub keeps_mem : (w : View) (l : ℕ) → is l o ≡ false → (effect k c m (lent v w)).mem l ≡ w.mem l
    -- what it does rests on its own parts and on what is there
    pub place : (w : View) → Agree o v w → (effect k c m (lent v w)).place ≡ (effect k c m v).place
    pub vals : (w : View) → Agree o v w → (effect k c m (lent v w)).vals ≡ (effect k c m v).vals
    pub bufs : (w : View) → Agree o v w → (effect k c m (lent v w)).bufs ≡ (effect k c m v).bufs
    pub locks : (w : View) → Agree o v w → (l : ℕ) → is l o ≡ true → (effect k c m (lent v w)).locks l ≡ (effect k c m v).locks l
    pub mem : (w : View) → Agree o v w → (l : ℕ) → is l o ≡ true → (effect k c m (lent v w)).mem l ≡ (effect k c m v).mem l
    pub fits : (w : View) → Agree o v w → allowed k c (board v) m ≡ true → allowed k c (board (lent v w)) m ≡ true

  follows_lent : (v w : View) (p : ℕ) (i : Instr) → follows k c (board (lent v w)) p i ≡ follows k c (board v) p i
  follows_lent v w p Empty = refl
  follows_lent v w p (Read d a) = refl
  follows_lent v w p (Write a x) = refl
  follows_lent v w p (Local d e) = refl
  follows_lent v w p (Branch a l) = refl
  follows_lent v w p (Goto l) = refl
  follows_lent v w p (Acquire a) = refl
  follows_lent v w p (Release a) = refl

  pending_lent : (v w : View) (p l : ℕ) (o : Option ℕ) → pending (board (lent v w)) p l o ≡ pending (board v) p l o
  pending_lent v w p l none = refl
  pending_lent v w p l (some n) = refl

  yields_lent : (v w : View) (p : ℕ) (i : Instr) → (reading (kind i) ≡ true → w.mem (operand k c (board v) p 0) ≡ v.mem (operand k c (board v) p 0)) → yields k c (board (lent v w)) p i ≡ yields k c (board v) p i
  yields_lent v w p Empty h = refl
  yields_lent v w p (Read d a) h = ap₂ or_else (pending_lent v w p (operand k c (board v) p 0) (slot k (operand k c (board v) p 0))) (h refl)
  yields_lent v w p (Write a x) h = refl
  yields_lent v w p (Local d e) h = refl
  yields_lent v w p (Branch a l) h = refl
  yields_lent v w p (Goto l) h = refl
  yields_lent v w p (Acquire a) h = refl
  yields_lent v w p (Release a) h = refl

  module _ (p : ℕ) (v : View) where
    abbrev i : Instr
    i = instruction k c (board v) p

    abbrev at : ℕ
    at = operand k c (board v) p 0

    here : (l : ℕ) → is l (some at) ≡ true → at ≡ l
    here l h = eqb-true at l h

    locks_elsewhere : (x : Bool) (w : View) (h : Option ℕ) (l : ℕ) → (at ≡ l → ⊥) → cond x (put w.locks at h) w.locks l ≡ w.locks l
    locks_elsewhere true w h l d = put_other w.locks at l h (λ e. d (sym e))
    locks_elsewhere false w h l d = refl

    mem_elsewhere : (x : Bool) (o : Option ℕ) (w : View) (l : ℕ) → (at ≡ l → ⊥) → cond x (in_memory o w.mem (new_store k c (board v) p)) w.mem l ≡ w.mem l
    mem_elsewhere true none w l d = put_other w.mem at l _ (λ e. d (sym e))
    mem_elsewhere true (some n) w l d = refl
    mem_elsewhere false o w l d = refl

    locks_here : (x : Bool) (w : View) (h : Option ℕ) (l : ℕ) → at ≡ l → w.locks l ≡ v.locks l → cond x (put w.locks at h) w.locks l ≡ cond x (put v.locks at h) v.locks l
    locks_here true w h l e g = put_same w.locks at l h (sym e) ∙ sym (put_same v.locks at l h (sym e))
    locks_here false w h l e g = g

    mem_here : (x : Bool) (o : Option ℕ) (w : View) (l : ℕ) → at ≡ l → w.mem l ≡ v.mem l → cond x (in_memory o w.mem (new_store k c (board v) p)) w.mem l ≡ cond x (in_memory o v.mem (new_store k c (board v) p)) v.mem l
    mem_here true none w l e g = put_same w.mem at l _ (sym e) ∙ sym (put_same v.mem at l _ (sym e))
    mem_here true (some n) w l e g = g
    mem_here false o w l e g = g

    -- an instruction that is not barred, with the same holder of its location
    still : (w : View) → barred p (kind i) (w.locks at) ≡ barred p (kind i) (v.locks at) → allowed k c (board v) (run p) ≡ true → allowed k c (board (lent v w)) (run p) ≡ true
    still w e h =
        let R = can_run k c (board v) p h in
        run_make k c (board (lent v w)) p (record { low = R.low; inside = R.inside; ready = R.ready; near = R.near; free = e ∙ R.free; empty = R.empty })

    -- any instruction touches its address at most
    pub foot_run : Foot (run p) v (some at)
    foot_run =
        record {
          keeps_locks = λ w l h. locks_elsewhere (syncs (kind i)) w _ l (eqb-false at l h);
          keeps_mem = λ w l h. mem_elsewhere (writing (kind i)) (slot k at) w l (eqb-false at l h);
          place = λ w A. follows_lent v w p i;
          vals = λ w A. ap (λ (x : ℕ). assigned v.vals (assigns i) (some x)) (yields_lent v w p i (λ _. A.mem at (eq-eqb at at refl)));
          bufs = λ w A. refl;
          locks = λ w A l h. locks_here (syncs (kind i)) w _ l (here l h) (A.locks l h);
          mem = λ w A l h. mem_here (writing (kind i)) (slot k at) w l (here l h) (A.mem l h);
          fits = λ w A. still w (ap (barred p (kind i)) (A.locks at (eq-eqb at at refl)));
        }

    -- a quiet one touches nothing
    module _ (Q : quiet k c (board v) p ≡ true) where
      pub calm : (reading (kind i) ≡ false) × (acquiring (kind i) ≡ false) × (releasing (kind i) ≡ false) × (writing (kind i) ≡ true → is_none (slot k at) ≡ false)
      unfolding quiet
      calm =
          let q = and_both (not (reading (kind i) || syncs (kind i))) (not (writing (kind i) && is_none (slot k at))) Q in
          let u = or_none (reading (kind i)) (syncs (kind i)) (not-true _ q.0) in
          let w = or_none (acquiring (kind i)) (releasing (kind i)) u.1 in
          (u.0, w.0, w.1, λ g. and_rest (writing (kind i)) (is_none (slot k at)) (not-true _ q.1) g)

      leaves-locks : (w : View) → (run_view k c p (lent v w)).locks ≡ w.locks
      leaves-locks w = cond-false (syncs (kind i)) _ _ (rw (calm.1, calm.2))

      leaves_mem : (w : View) → (run_view k c p (lent v w)).mem ≡ w.mem
      leaves_mem w = entering (writing (kind i)) (slot k at) w.mem (new_store k c (board v) p) calm.3

      pub foot_quiet : Foot (run p) v none
      foot_quiet =
          record {
            keeps_locks = λ w l _. ap (λ (f : ℕ → Option ℕ). f l) (leaves-locks w);
            keeps_mem = λ w l _. ap (λ (f : ℕ → ℕ). f l) (leaves_mem w);
            place = λ w A. follows_lent v w p i;
            vals = λ w A. ap (λ (x : ℕ). assigned v.vals (assigns i) (some x)) (yields_lent v w p i (λ h. absurd (false≢true (sym calm.0 ∙ h))));
            bufs = λ w A. refl;
            locks = λ w A l h. absurd (false≢true h);
            mem = λ w A l h. absurd (false≢true h);
            fits = λ w A. still w (rw (calm.1, calm.2));
          }

    -- a read changes nothing
    pub read_leaves : reading (kind i) ≡ true → ((run_view k c p v).locks ≡ v.locks) × ((run_view k c p v).mem ≡ v.mem)
    read_leaves h = let e = eqb-true (kind i) 1 h in (cond-false (syncs (kind i)) _ _ (ap syncs e), cond-false (writing (kind i)) _ _ (ap writing e))

  drain_fits : (p n : ℕ) (v w : View) → allowed k c (board v) (drain p n) ≡ true → allowed k c (board (lent v w)) (drain p n) ≡ true
  unfolding allowed
  drain_fits p n v w h = h

  -- a drain touches the location of its store
  pub foot_drain : (p n : ℕ) (v : View) → Foot (drain p n) v (oldest_at (v.bufs n))
  foot_drain p n v = by_list (v.bufs n) refl
    where
      by_list : (xs : List Store) → v.bufs n ≡ xs → Foot (drain p n) v (oldest_at xs)
      by_list [] e =
          record {
            keeps_locks = λ w l _. ap (λ (x : List Store). (drain_view k c n (lent v w) x).locks l) e;
            keeps_mem = λ w l _. ap (λ (x : List Store). (drain_view k c n (lent v w) x).mem l) e;
            place = λ w A. ap (λ (x : List Store). (drain_view k c n (lent v w) x).place) e ∙ sym (ap (λ (x : List Store). (drain_view k c n v x).place) e);
            vals = λ w A. ap (λ (x : List Store). (drain_view k c n (lent v w) x).vals) e ∙ sym (ap (λ (x : List Store). (drain_view k c n v x).vals) e);
            bufs = λ w A. ap (λ (x : List Store). (drain_view k c n (lent v w) x).bufs) e ∙ sym (ap (λ (x : List Store). (drain_view k c n v x).bufs) e);
            locks = λ w A l h. absurd (false≢true h);
            mem = λ w A l h. absurd (false≢true h);
            fits = λ w A. drain_fits p n v w;
          }
      by_list (y ∷ ys) e =
          record {
            keeps_locks = λ w l _. ap (λ (x : List Store). (drain_view k c n (lent v w) x).locks l) e;
            keeps_mem = λ w l h. ap (λ (x : List Store). (drain_view k c n (lent v w) x).mem l) e ∙ put_other w.mem y.loc l y.value (λ q. eqb-false y.loc l h (sym q));
            place = λ w A. ap (λ (x : List Store). (drain_view k c n (lent v w) x).place) e ∙ sym (ap (λ (x : List Store). (drain_view k c n v x).place) e);
            vals = λ w A. ap (λ (x : List Store). (drain_view k c n (lent v w) x).vals) e ∙ sym (ap (λ (x : List Store). (drain_view k c n v x).vals) e);
            bufs = λ w A. ap (λ (x : List Store). (drain_view k c n (lent v w) x).bufs) e ∙ sym (ap (λ (x : List Store). (drain_view k c n v x).bufs) e);
            locks = λ w A l h. ap (λ (x : List Store). (drain_view k c n (lent v w) x).locks l) e ∙ A.locks l h ∙ sym (ap (λ (x : List Store). (drain_view k c n v x).locks l) e);
            mem = λ w A l h. ap (λ (x : List Store). (drain_view k c n (lent v w) x).mem l) e ∙ put_same w.mem y.loc l y.value (sym (eqb-true y.loc l h)) ∙ sym (ap (λ (x : List Store). (drain_view k c n v x).mem l) e ∙ put_same v.mem y.loc l y.value (sym (eqb-true y.loc l h)));
            fits = λ w A. drain_fits p n v w;
          }
