-- A search may take a sure instruction alone. Assumes nothing.
use mathlib.Core.Path.{◌≡◌, refl, sym, ◌∙◌, ap, subst}
use mathlib.Core.Logic.{◌⊎◌, inl, inr, ⊎_elim, ◌↔◌}
use mathlib.Core.Bool.{Bool, true, false, false≢true}
use mathlib.Core.List.{List, [], ◌∷◌}
use Prim.Native.Nat.{ℕ, suc}
use native.Mathlib.Omega.{arith}
use lib.Dec.{eqb}
use borrow.Author.Tests.{eqb-true, eqb-false}
use Rattle.words.proofs.Bools.{decide, and_both}
use Rattle.cases.specs.declared.Case.{Case}
use Rattle.runs.proofs.Walk.{stop, go}
use Rattle.boards.specs.declared.Buffering.{Buffering}
use Rattle.boards.specs.Board.{Store, Board}
use Rattle.boards.specs.Machine.{Move, run, drain, moved, ended, finished}
use Rattle.boards.specs.Listing.{instructions, OutcomeFrom, CutFrom}
use Rattle.boards.specs.Question.{Question, outcome, cut, Yes}
use Rattle.boards.specs.Quiet.{quiet, Sure}
use Rattle.boards.specs.Apart.{who}
use Rattle.boards.proofs.Accepted.{Runs, code_allowed, move_first}
use Rattle.boards.proofs.Answers.{move_yes}
use Rattle.boards.proofs.Stable.{unended, prefix, outcome_run, cut_run, outcome_of, cut_of}
use Rattle.boards.proofs.Views.{View, board, view, set, lent, drain_view, effect, moved_set, view-own, view_other}
use Rattle.boards.proofs.Crossing.{Crossing}
use Rattle.boards.proofs.Apart.{quiet-view, crossing-sure}

module _ (k : Buffering) (c : Case) where
  drained-quiet : (n p : ℕ) (v : View) (xs : List Store) → quiet k c (board (drain_view k c n v xs)) p ≡ quiet k c (board v) p
  unfolding quiet
  drained-quiet n p v [] = refl
  drained-quiet n p v (x ∷ xs) = refl

  lent_quiet : (p : ℕ) (v w : View) → quiet k c (board (lent v w)) p ≡ quiet k c (board v) p
  unfolding quiet
  lent_quiet p v w = refl

  -- another move leaves an instruction quiet
  still_quiet : (b : Board) (p : ℕ) (m : Move) → (run p ≡ m → ⊥) → quiet k c (moved k c b m) p ≡ quiet k c b p
  still_quiet b p m d = ap (λ x. quiet k c x p) (moved_set k c b m) ∙ quiet-view k c (set b (who m) (effect k c m (view b (who m)))) p ∙ by_move m d ∙ sym (quiet-view k c b p)
    where
      other : (m : Move) → (p ≡ who m → ⊥) → quiet k c (board (view (set b (who m) (effect k c m (view b (who m)))) p)) p ≡ quiet k c (board (view b p)) p
      other m f = ap (λ x. quiet k c (board x) p) (view_other b (who m) p (effect k c m (view b (who m))) f) ∙ lent_quiet p (view b p) (effect k c m (view b (who m)))

      own : (n : ℕ) → quiet k c (board (view (set b p (drain_view k c n (view b p) (b.buffers p n))) p)) p ≡ quiet k c (board (view b p)) p
      own n = ap (λ x. quiet k c (board x) p) (view-own b p (drain_view k c n (view b p) (b.buffers p n))) ∙ drained-quiet n p (view b p) (b.buffers p n)

      by_move : (m : Move) → (run p ≡ m → ⊥) → quiet k c (board (view (set b (who m) (effect k c m (view b (who m)))) p)) p ≡ quiet k c (board (view b p)) p
      by_move (run q) d = other (run q) (λ e. d (ap run e))
      by_move (drain q n) d =
          ⊎_elim (λ e. subst (λ (x : ℕ). quiet k c (board (view (set b x (drain_view k c n (view b x) (b.buffers x n))) p)) p ≡ quiet k c (board (view b p)) p) (eqb-true p q e) (own n))
          (λ e. other (drain q n) (eqb-false p q e))
          (decide (eqb p q))

  -- the run with the sure instruction first
  record Pulled (b : Board) (p : ℕ) (ms : List Move) (e : Board) : Type 0 where
    moves : List Move
    walk : Runs k c (moved k c b (run p)) moves e
    fewer : suc (instructions moves) ≡ instructions ms

  -- or the run does without it
  record Missed (b : Board) (p : ℕ) (ms : List Move) (e : Board) : Type 0 where
    still : Sure k c e p
    walk : Runs k c (moved k c b (run p)) ms (moved k c e (run p))

  same_move : (p : ℕ) (m : Move) → (m ≡ run p) ⊎ (run p ≡ m → ⊥)
  same_move p (run q) = ⊎_elim (λ e. inl (ap run (eqb-true q p e))) (λ e. inr (λ f. eqb-false q p e (sym (ap who f)))) (decide (eqb q p))
  same_move p (drain q n) = inr (λ f. false≢true (sym (ap runs f)))
    where
      runs : Move → Bool
      runs (run p) = true
      runs (drain p n) = false

  pull : (ms : List Move) {b e : Board} (p : ℕ) → Sure k c b p → Runs k c b ms e → Pulled b p ms e ⊎ Missed b p ms e
  unfolding instructions
  pull [] {b} {e} p S (stop h) = inr (record { still = subst (λ z. Sure k c z p) h S; walk = stop (ap (λ z. moved k c z (run p)) h) })
  pull (m ∷ ms) {b} {e} p S (go h w) =
      ⊎_elim (λ q. inl (same q))
      (λ d. let X = crossing-sure k c b p S m d (code_allowed k c b m h) in more X (pull ms p (record { can = X.sooner; calm = still_quiet b p m d ∙ S.calm }) w))
      (same_move p m)
    where
      same : m ≡ run p → Pulled b p (m ∷ ms) e
      same q = record { moves = ms; walk = subst (λ z. Runs k c (moved k c b z) ms e) q w; fewer = ap (λ z. instructions (z ∷ ms)) (sym q) }

      counts : (m : Move) (x y : List Move) → suc (instructions x) ≡ instructions y → suc (instructions (m ∷ x)) ≡ instructions (m ∷ y)
      counts (run q) x y e = ap suc e
      counts (drain q n) x y e = e

      more : Crossing k c b (run p) m → Pulled (moved k c b m) p ms e ⊎ Missed (moved k c b m) p ms e → Pulled b p (m ∷ ms) e ⊎ Missed b p (m ∷ ms) e
      more X (inl r) = inl (record { moves = m ∷ r.moves; walk = move_first k c (moved k c b (run p)) m X.later (subst (λ z. Runs k c z r.moves e) (sym X.meets) r.walk); fewer = counts m r.moves ms r.fewer })
      more X (inr r) = inr (record { still = r.still; walk = move_first k c (moved k c b (run p)) m X.later (subst (λ z. Runs k c z ms (moved k c e (run p))) (sym X.meets) r.walk) })

  -- A SURE INSTRUCTION ALONE: nothing is lost
  module _ (b : Board) (p : ℕ) (S : Sure k c b p) (n : ℕ) where
    sure_pulled : (q : Question) → Yes k c b (suc n) q → Yes k c (moved k c b (run p)) n q
    unfolding finished
    sure_pulled (outcome r) o = ⊎_elim kept (λ q. absurd (false≢true (sym (unended k c o.end p q.still.can) ∙ (and_both (ended c o.end) _ o.done).0))) (pull o.moves p S (outcome_run k c o))
      where
        kept : Pulled b p o.moves o.end → OutcomeFrom k c (moved k c b (run p)) n r
        kept q = outcome_of k c q.walk (omega (arith, q.fewer, o.short)) o.done o.gives
    sure_pulled cut o = ⊎_elim kept (λ q. prefix k c o.moves n q.walk (omega (arith, o.exact))) (pull o.moves p S (cut_run k c o))
      where
        kept : Pulled b p o.moves o.end → CutFrom k c (moved k c b (run p)) n
        kept q = cut_of k c q.walk (omega (arith, q.fewer, o.exact)) o.undone

    pub sure-alone : (q : Question) → Yes k c b (suc n) q ↔ Yes k c (moved k c b (run p)) n q
    sure-alone q = (sure_pulled q, move_yes k c b (run p) n S.can q)
