-- Moves that are apart may change places. Assumes nothing.
use mathlib.Core.Path.{◌≡◌, refl, sym, ◌∙◌, ap, subst}
use mathlib.Core.Logic.{⊎_elim}
use mathlib.Core.Bool.{Bool, true, false, cond, not, ◌&&◌, ◌||◌, false≢true}
use mathlib.Core.List.{List, [], ◌∷◌}
use mathlib.Core.Option.{Option, none, some}
use Prim.Native.Nat.{ℕ}
use lib.Dec.{eqb}
use borrow.Author.Tests.{eqb-true, eqb-false, not-true}
use Rattle.words.specs.Small.{is, or_zero}
use Rattle.words.proofs.Bools.{decide, and_both, or_cases, or_false, fails}
use Rattle.cases.specs.declared.Case.{Case}
use Rattle.rules.specs.Kinds.{kind, reading, writing, syncs}
use Rattle.boards.specs.declared.Buffering.{Buffering}
use Rattle.boards.specs.Board.{slot, Store, Board, filled}
use Rattle.boards.specs.Machine.{Move, run, drain, allowed}
use Rattle.boards.specs.Run.{instruction, operand}
use Rattle.boards.specs.Quiet.{quiet, Sure}
use Rattle.boards.specs.Apart.{who, oldest_at, Placed, alike, touches, looks, light, apart}
use Rattle.boards.proofs.Accepted.{can_drain}
use Rattle.boards.proofs.Views.{view, board, effect}
use Rattle.boards.proofs.Footprints.{Foot, foot_run, foot_quiet, foot_drain, read_leaves, calm}
use Rattle.boards.proofs.Crossing.{Crossing, Leaves, crossing-two}
use Rattle.boards.proofs.Own.{crossing-own, crossing-drains}

pub turned : {k : Buffering} {c : Case} {b : Board} {m z : Move} → Crossing k c b m z → Crossing k c b z m
turned X = record { later = X.sooner; sooner = X.later; meets = sym X.meets }

-- two that are not alike
unlike : (o q : Option ℕ) → alike o q ≡ false → (l : ℕ) → is l q ≡ true → is l o ≡ false
unlike none q h l e = refl
unlike (some a) q h l e = fails false (is l (some a)) (λ g. sym h ∙ subst (λ (i : ℕ). is i q ≡ true) (sym (eqb-true a l g)) e) refl

unlike_too : (o q : Option ℕ) → alike o q ≡ false → (l : ℕ) → is l o ≡ true → is l q ≡ false
unlike_too none q h l e = absurd (false≢true e)
unlike_too (some a) q h l e = subst (λ (i : ℕ). is i q ≡ false) (eqb-true a l e) h

module _ (k : Buffering) (c : Case) (b : Board) where
  pub quiet-view : (p : ℕ) → quiet k c b p ≡ quiet k c (board (view b p)) p
  unfolding quiet
  quiet-view p = refl

  pub foot_of : (m : Move) → Foot k c m (view b (who m)) (touches k c b m)
  unfolding touches
  foot_of (run p) = step (quiet k c b p) refl
    where
      step : (x : Bool) → quiet k c b p ≡ x → Foot k c (run p) (view b p) (cond x none (some (operand k c b p 0)))
      step true h = foot_quiet k c p (view b p) (sym (quiet-view p) ∙ h)
      step false h = foot_run k c p (view b p)
  foot_of (drain p n) = foot_drain k c p n (view b p)

  -- elsewhere than what it touches a move leaves all
  leaves_far : (m : Move) (q : Option ℕ) → ((l : ℕ) → is l q ≡ true → is l (touches k c b m) ≡ false) → Leaves b (effect k c m (view b (who m))) q
  leaves_far m q f = record { locks = λ l h. (foot_of m).keeps_locks (view b (who m)) l (f l h); mem = λ l h. (foot_of m).keeps_mem (view b (who m)) l (f l h) }

  -- a read everywhere
  leaves_all : (m : Move) (q : Option ℕ) → looks k c b m ≡ true → Leaves b (effect k c m (view b (who m))) q
  unfolding looks
  leaves_all (run p) q h = let r = read_leaves k c p (view b p) h in record { locks = λ l _. ap (λ (f : ℕ → Option ℕ). f l) r.0; mem = λ l _. ap (λ (f : ℕ → ℕ). f l) r.1 }
  leaves_all (drain p n) q h = absurd (false≢true h)

  module _ (m z : Move) (am : allowed k c b m ≡ true) (az : allowed k c b z ≡ true) where
    by_two : (who z ≡ who m → ⊥) → (not (alike (touches k c b m) (touches k c b z)) || (looks k c b m && looks k c b z)) ≡ true → Crossing k c b m z
    by_two d h = ⊎_elim far near (or_cases _ _ h)
      where
        far : not (alike (touches k c b m) (touches k c b z)) ≡ true → Crossing k c b m z
        far g =
            let u = not-true (alike (touches k c b m) (touches k c b z)) g in
            crossing-two k c b m z d (touches k c b m) (touches k c b z) (foot_of m) (foot_of z) (leaves_far m (touches k c b z) (unlike (touches k c b m) (touches k c b z) u)) (leaves_far z (touches k c b m) (unlike_too (touches k c b m) (touches k c b z) u)) am az

        near : (looks k c b m && looks k c b z) ≡ true → Crossing k c b m z
        near g =
            let w = and_both (looks k c b m) (looks k c b z) g in
            crossing-two k c b m z d (touches k c b m) (touches k c b z) (foot_of m) (foot_of z) (leaves_all m (touches k c b z) w.0) (leaves_all z (touches k c b m) w.1) am az

  -- what a drain that is allowed takes
  record Taken (p n : ℕ) : Type 0 where
    oldest : Store
    left : List Store
    there : b.buffers p n ≡ oldest ∷ left

  taken : (p n : ℕ) → allowed k c b (drain p n) ≡ true → Taken p n
  taken p n h = by_list (b.buffers p n) refl
    where
      by_list : (xs : List Store) → b.buffers p n ≡ xs → Taken p n
      by_list [] e = absurd (false≢true (sym (ap filled e) ∙ (can_drain k c b p n h).holds))
      by_list (x ∷ xs) e = record { oldest = x; left = xs; there = e }

  module _ (P : Placed k b) where
    placed : (p n : ℕ) (T : Taken p n) → slot k T.oldest.loc ≡ some n
    placed p n T = P.enters p n T.oldest.loc (ap oldest_at T.there)

    read_drain : (p n : ℕ) → reading (kind (instruction k c b p)) ≡ true → allowed k c b (run p) ≡ true → allowed k c b (drain p n) ≡ true → Crossing k c b (run p) (drain p n)
    read_drain p n r ar ad =
        let T = taken p n ad in
        let e = eqb-true (kind (instruction k c b p)) 1 r in
        crossing-own k c b p n T.oldest T.left T.there (λ _. placed p n T) (ap syncs e) (λ w. absurd (false≢true (sym (ap writing e) ∙ w))) ar ad

    two-drains : (p n m : ℕ) → (n ≡ m → ⊥) → allowed k c b (drain p n) ≡ true → allowed k c b (drain p m) ≡ true → Crossing k c b (drain p n) (drain p m)
    two-drains p n m d an am =
        let T = taken p n an in
        let U = taken p m am in
        crossing-drains k c b p n m d T.oldest U.oldest T.left U.left T.there U.there (λ e. d (ap or_zero (sym (placed p n T) ∙ ap (slot k) e ∙ placed p m U))) an am

    by_one : (m z : Move) → (m ≡ z → ⊥) → who m ≡ who z → light k c b m ≡ true → light k c b z ≡ true → allowed k c b m ≡ true → allowed k c b z ≡ true → Crossing k c b m z
    unfolding light
    by_one (run p) (run q) d e lm lz am az = absurd (d (ap run e))
    by_one (run p) (drain q n) d e lm lz am az = subst (λ (x : ℕ). Crossing k c b (run p) (drain x n)) e (read_drain p n lm am (subst (λ (x : ℕ). allowed k c b (drain x n) ≡ true) (sym e) az))
    by_one (drain p n) (run q) d e lm lz am az = turned (subst (λ (x : ℕ). Crossing k c b (run q) (drain x n)) (sym e) (read_drain q n lz az (subst (λ (x : ℕ). allowed k c b (drain x n) ≡ true) e am)))
    by_one (drain p n) (drain q m) d e lm lz am az =
        subst (λ (x : ℕ). Crossing k c b (drain p n) (drain x m)) e (two-drains p n m (λ f. d (λ i. drain (e i) (f i))) am (subst (λ (x : ℕ). allowed k c b (drain x m) ≡ true) (sym e) az))

    -- MOVES THAT ARE APART
    pub crossing : (m z : Move) → (m ≡ z → ⊥) → apart k c b m z ≡ true → allowed k c b m ≡ true → allowed k c b z ≡ true → Crossing k c b m z
    unfolding apart
    crossing m z d h am az = by_who (eqb (who m) (who z)) refl h
      where
        by_who : (x : Bool) → eqb (who m) (who z) ≡ x → cond x (light k c b m && light k c b z) (not (alike (touches k c b m) (touches k c b z)) || (looks k c b m && looks k c b z)) ≡ true → Crossing k c b m z
        by_who true e g = let w = and_both (light k c b m) (light k c b z) g in by_one m z d (eqb-true _ _ e) w.0 w.1 am az
        by_who false e g = by_two m z am az (λ q. eqb-false _ _ e (sym q)) g

  -- A SURE INSTRUCTION and any other move
  pub crossing-sure : (p : ℕ) → Sure k c b p → (m : Move) → (run p ≡ m → ⊥) → allowed k c b m ≡ true → Crossing k c b (run p) m
  crossing-sure p S m d am = by_move m d am
    where
      Q : quiet k c (board (view b p)) p ≡ true
      Q = sym (quiet-view p) ∙ S.calm

      other : (m : Move) → (who m ≡ p → ⊥) → allowed k c b m ≡ true → Crossing k c b (run p) m
      other m f am =
          let F = foot_quiet k c p (view b p) Q in
          crossing-two k c b (run p) m f none (touches k c b m) F (foot_of m)
          (record { locks = λ l _. F.keeps_locks (view b p) l refl; mem = λ l _. F.keeps_mem (view b p) l refl })
          (record { locks = λ l h. absurd (false≢true h); mem = λ l h. absurd (false≢true h) })
          S.can am

      own : (n : ℕ) → allowed k c b (drain p n) ≡ true → Crossing k c b (run p) (drain p n)
      own n ad =
          let T = taken p n ad in
          let K = calm k c p (view b p) Q in
          crossing-own k c b p n T.oldest T.left T.there (λ r. absurd (false≢true (sym K.0 ∙ r))) (or_false _ _ K.1 K.2) K.3 S.can ad

      by_move : (m : Move) → (run p ≡ m → ⊥) → allowed k c b m ≡ true → Crossing k c b (run p) m
      by_move (run q) d am = ⊎_elim (λ e. absurd (d (ap run (sym (eqb-true q p e))))) (λ e. other (run q) (eqb-false q p e) am) (decide (eqb q p))
      by_move (drain q n) d am =
          ⊎_elim (λ e. let f = eqb-true q p e in subst (λ (x : ℕ). Crossing k c b (run p) (drain x n)) (sym f) (own n (subst (λ (x : ℕ). allowed k c b (drain x n) ≡ true) f am)))
          (λ e. other (drain q n) (eqb-false q p e) am)
          (decide (eqb q p))
