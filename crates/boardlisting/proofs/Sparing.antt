-- Moves that a search has taken stay spent after another that may change places with them. Assumes nothing.
use mathlib.Core.Path.{◌≡◌, refl, sym, ◌∙◌, ap, subst}
use mathlib.Core.Bool.{Bool, true, false, ◌&&◌, ◌||◌, not, cond, false≢true}
use mathlib.Core.Option.{none, some}
use mathlib.Core.Option as Math
use Rattle.std.specs.Prelude.{Option, Some, None, IfSome, is_some, unwrap_or}
use Rattle.cases.specs.declared.Instr.{Instr}
use Rattle.std.specs.Bool.{then_some}
use Rattle.cases.specs.declared.Instr.TheVariants.{Empty, Read, Write, Local, Branch, Goto, Acquire, Release}
use Rattle.boards.specs.Run.{instruction}
use Prim.Native.Nat.{ℕ, suc, ◌+◌, ◌*◌, ◌-◌, ◌/◌, ◌%◌, ◌≤◌, ◌<◌}
use native.Mathlib.Omega.{arith}
use lib.Dec.{eqb, ltb}
use borrow.Author.Tests.{not-true, ltb-true, ltb-false, lt-ltb, le-ltb}
use Rattle.words.specs.Sets.{has}
use Rattle.words.proofs.Bools.{and_both, cond-true, cond-false}
use Rattle.cases.specs.declared.Case.{Case}
use Rattle.machine.specs.Shown.{option_of}
use Rattle.boards.specs.declared.Buffering.{Buffering}
use Rattle.boards.specs.Board.{Board}
use Rattle.boards.specs.Machine.{Move, run, drain, allowed, moved}
use Rattle.boards.specs.Listing.{counted}
use Rattle.boards.specs.Question.{Question}
use Rattle.boards.specs.Quiet.{quiet}
use Rattle.boards.specs.Apart.{who, oldest_at, Placed, alike, touches, looks, light, apart}
use Rattle.boards.specs.Run.{operand}
use Rattle.boards.proofs.Answers.{left, counted-left}
use Rattle.boards.proofs.Crossing.{Crossing}
use Rattle.boards.proofs.Apart.{crossing, crossing-sure}
use Rattle.boards.proofs.Spent.{counted_swap, found_already}
use Rattle.stores.specs.Log.{Waits}
use Rattle.running.specs.declared.Arrays.{Arrays}
use Rattle.running.specs.declared.Next.{Next}
use Rattle.running.specs.Shown.{shown}
use Rattle.running.specs.Glanced.{Glanced}
use Rattle.boardlisting.specs.declared.Touch.{Touch}
use Rattle.boardlisting.specs.Moves.{move_at, open_at, SureAt, first_position, last_position}
use Rattle.boardlisting.specs.Spent.{Known, Touched, apart_by, Kept}

-- two positions have two moves

runs : Move → Bool
runs (run p) = true
runs (drain p n) = false

buffer : Move → ℕ
buffer (run p) = 0
buffer (drain p n) = n

pub one_position : (i j : ℕ) → move_at i ≡ move_at j → i ≡ j
unfolding runs buffer
one_position i j e = step (ltb i 4) (ltb j 4) refl refl e
  where
    step : (x y : Bool) → ltb i 4 ≡ x → ltb j 4 ≡ y → cond x (run i) (drain ((i - 4) / 8) ((i - 4) % 8)) ≡ cond y (run j) (drain ((j - 4) / 8) ((j - 4) % 8)) → i ≡ j
    step true true f g h = ap who h
    step true false f g h = absurd (false≢true (sym (ap runs h)))
    step false true f g h = absurd (false≢true (ap runs h))
    step false false f g h = omega (arith, ltb-false i 4 f, ltb-false j 4 g, ap who h, ap buffer h)

-- by what they touch
pub apart_is : {k : Buffering} {c : Case} {b : Board} {m z : Move} {t u : Touch} → Touched k c b m t → Touched k c b z u → apart_by t u ≡ apart k c b m z
unfolding apart
apart_is T U = λ i.
    cond (eqb (T.proc i) (U.proc i)) (T.light i && U.light i) (not (alike (T.there i) (U.there i)) || (T.looks i && U.looks i))

module _ (k : Buffering) (c : Case) (b : Board) (n : ℕ) where
  -- AFTER THE MOVE AT POSITION i
  pub known_next : (sure i done r : ℕ) {T : Question → Type 0} → Placed k b → SureAt k c b sure → first_position sure ≤ i → i < last_position sure
      → open_at k c b done i ≡ true → Kept k c b sure done i r → Known k c b (suc n) done T → Known k c (moved k c b (move_at i)) (left k c (move_at i) n) r T
  known_next sure i done r {T} P S from to opens H K =
      record {
        taken = λ j e. (cross j e).later;
        told = λ j e x l q y.
            K.told j (H.had j e) (counted (move_at i) x)
            (sym (counted-left k c (move_at i) n) ∙ ap (counted (move_at i)) l ∙ counted_swap (move_at i) (move_at j) x)
            q (found_already k c b (move_at i) (move_at j) (cross j e) x q y);
      }
    where
      fresh : has done i ≡ false
      fresh = not-true (has done i) (and_both (not (has done i)) (allowed k c b (move_at i)) opens).0

      allows : allowed k c b (move_at i) ≡ true
      allows = (and_both (not (has done i)) (allowed k c b (move_at i)) opens).1

      differ : (j : ℕ) → has done j ≡ true → move_at i ≡ move_at j → ⊥
      differ j e f = false≢true (sym fresh ∙ ap (has done) (one_position i j f) ∙ e)

      cross : (j : ℕ) → has r j ≡ true → Crossing k c b (move_at i) (move_at j)
      cross j e = by_sure (ltb sure 4) refl from to
        where
          by_sure : (x : Bool) → ltb sure 4 ≡ x → cond x sure 0 ≤ i → i < cond x (sure + 1) 36 → Crossing k c b (move_at i) (move_at j)
          by_sure true f lo hi =
              let same : i ≡ sure = omega arith in
              let is : move_at i ≡ run sure = ap move_at same ∙ cond-true _ _ _ f in
              subst (λ (m : Move). Crossing k c b m (move_at j)) (sym is)
              (crossing-sure k c b sure (S.found (ltb-true sure 4 f)) (move_at j) (λ g. differ j (H.had j e) (is ∙ g)) (K.taken j (H.had j e)))
          by_sure false f lo hi = crossing k c b P (move_at i) (move_at j) (differ j (H.had j e)) (H.far j e (ltb-false sure 4 f)) allows (K.taken j (H.had j e))

-- a read looks, and no other
module _ (k : Buffering) (c : Case) (b : Board) (p : ℕ) where
  pub looks_read : {a d : ℕ} → instruction k c b p ≡ Read a d → true ≡ looks k c b (run p)
  unfolding looks
  looks_read e = rw e

  pub looks-other : (i : Instr) → i ≡ instruction k c b p → ((a d : ℕ) → i ≡ Read a d → ⊥) → false ≡ looks k c b (run p)
  unfolding looks
  looks-other Empty e n = rw (sym e)
  looks-other (Read a d) e n = absurd (n a d refl)
  looks-other (Write a d) e n = rw (sym e)
  looks-other (Local a d) e n = rw (sym e)
  looks-other (Branch a d) e n = rw (sym e)
  looks-other (Goto d) e n = rw (sym e)
  looks-other (Acquire a) e n = rw (sym e)
  looks-other (Release a) e n = rw (sym e)

pub as_option : (t : Bool) (x : ℕ) → option_of (is_some (then_some t x)) (unwrap_or (then_some t x) 0) ≡ option_of t x
as_option true x = refl
as_option false x = refl

-- what the move at a position touches
module _ (k : Buffering) (c : Case) (b : Board) (i : ℕ) where
  abbrev at_of : Option ℕ → Math.Option ℕ
  at_of o = option_of (is_some o) (unwrap_or o 0)

  run_touched : (g : Next) (o : Option ℕ) (r : Bool) → Glanced k c b i g → at_of o ≡ option_of (not g.quiet) g.at → r ≡ looks k c b (run i) → Touched k c b (run i) (record { proc = i; at = o; looks = r; light = r })
  unfolding touches looks light
  run_touched g o r G e l =
      record {
        proc = refl;
        there = e ∙ (λ j. option_of (not (G.quiet j)) (G.at j)) ∙ by_quiet (quiet k c b i) (operand k c b i 0);
        looks = l;
        light = l;
      }
    where
      by_quiet : (x : Bool) (l : ℕ) → option_of (not x) l ≡ cond x none (some l)
      by_quiet true l = refl
      by_quiet false l = refl

  pub touched_run : (g : Next) (o : Option ℕ) (r : Bool) → i < 4 → Glanced k c b i g → at_of o ≡ option_of (not g.quiet) g.at → r ≡ looks k c b (run i) → Touched k c b (move_at i) (record { proc = i; at = o; looks = r; light = r })
  touched_run g o r low G e l = subst (λ (m : Move). Touched k c b m (record { proc = i; at = o; looks = r; light = r })) (sym (cond-true _ _ _ (lt-ltb i 4 low))) (run_touched g o r G e l)

  drain_touched : (p n : ℕ) (o : Option ℕ) → at_of o ≡ oldest_at (b.buffers p n) → Touched k c b (drain p n) (record { proc = p; at = o; looks = false; light = true })
  unfolding touches looks light
  drain_touched p n o e = record { proc = refl; there = e; looks = refl; light = refl }

  pub touched_drain : (o : Option ℕ) → 4 ≤ i → at_of o ≡ oldest_at (b.buffers ((i - 4) / 8) ((i - 4) % 8)) → Touched k c b (move_at i) (record { proc = (i - 4) / 8; at = o; looks = false; light = true })
  touched_drain o high e = subst (λ (m : Move). Touched k c b m (record { proc = (i - 4) / 8; at = o; looks = false; light = true })) (sym (cond-false _ _ _ (le-ltb i 4 high))) (drain_touched ((i - 4) / 8) ((i - 4) % 8) o e)

-- a drain that is open
pub open_drain : (k : Buffering) (c : Case) (s : Arrays) (waits done i : ℕ) → Waits k s.log s.logged waits → 4 ≤ i → i < 36 → has done i ≡ false
    → ((ltb ((i - 4) / 8) c.procs && ltb ((i - 4) % 8) c.locs) && has waits (i - 4)) ≡ open_at k c (shown k c s) done i
unfolding allowed
open_drain k c s waits done i W high low fresh =
    let p = (i - 4) / 8 in
    let b = (i - 4) % 8 in
    let n : 8 * ((i - 4) / 8) + (i - 4) % 8 ≡ i - 4 = omega arith in
    ap (λ (x : Bool). (ltb p c.procs && ltb b c.locs) && x) (ap (has waits) (sym n) ∙ W.holds p b (omega arith) (omega arith))
    ∙ sym (ap (λ (m : Move). allowed k c (shown k c s) m) (cond-false _ _ _ (le-ltb i 4 high)))
    ∙ sym (ap (λ (x : Bool). not x && allowed k c (shown k c s) (move_at i)) fresh)

-- what stays spent, where a sure instruction is one of four
pub kept_sure : {k : Buffering} {c : Case} {b : Board} {done i r : ℕ} (sure : Option ℕ) → IfSome sure (λ p. p < 4) → Kept k c b (cond (is_some sure) 0 4) done i r → Kept k c b (unwrap_or sure 4) done i r
kept_sure None h K = K
kept_sure (Some p) h K = record { had = K.had; far = λ j e l. absurd (omega (arith, h)) }
