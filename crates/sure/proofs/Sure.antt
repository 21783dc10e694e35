-- The commit of a local, a branch, a goto, a write or a release changes places with every other step. Assumes nothing.
use mathlib.Core.Path.{◌≡◌, refl, sym, ◌∙◌, subst, ap}
use mathlib.Core.Logic.{◌⊎◌, inl, inr, ⊎_elim}
use mathlib.Core.Bool.{Bool, true, false, not, ◌&&◌, ◌||◌, false≢true}
use mathlib.Core.Option.{Option, none, some}
use Prim.Native.Nat.{ℕ}
use native.Mathlib.Omega.{arith}
use lib.Dec.{eqb, ltb}
use borrow.Author.Tests.{eqb-true, ltb-true, ltb-false, eqb-false}
use Rattle.words.proofs.Bools.{decide, or_cases, or_right, and_make}
use Rattle.cases.specs.declared.Case.{Case}
use Rattle.rules.specs.Kinds.{reading, acquiring, syncs, releasing}
use Rattle.rules.specs.Commit.{barred}
use Rattle.rules.specs.State.{State, kind_of}
use Rattle.rules.specs.Step.{issue, Step, step_code, commit, neither}
use Rattle.rules.proofs.Accepted.{still, after_issue, neither_no}
use Rattle.sure.specs.Sure.{sure_kind}
use Rattle.sure.specs.Told.{Done, Open}
use Rattle.sure.proofs.Kept.{unheld, issued_old, waits-none, waits_proc}
use Rattle.sure.proofs.Good.{turning_at, Good, good_step}
use Rattle.sure.proofs.Commits.{Apart, turned, kept, can_after, unread_after, commits_meet}
use Rattle.sure.proofs.Moves.{commits_move, commit_moves}
use Rattle.sure.proofs.Reduce.{Diamond, Laws, diamond_last}
use Rattle.sure.proofs.Commit.{after-take, CanTake, Commit, as_step, self, can_take, input, the, source_zero}
use Rattle.sure.proofs.Held.{release_held, sync_held, sure_unacquired, sure_unread}

-- an accepted commit of a sure kind
pub record SureCommit (c : Case) (s : State) (t : Commit) : Type 0 where
  pub accepted : step_code c s (as_step t) ≡ 0
  pub kinds : sure_kind (kind_of (self s t)) ≡ true

-- the same of a step
pub data IsSureCommit (c : Case) (s : State) : Step → Type 0 where
  sure_commit : (t : Commit) → SureCommit c s t → IsSureCommit c s (as_step t)

-- a location held by one is not to be had by another
hold_owner : (p : ℕ) (k : ℕ) (m : ℕ) → syncs k ≡ true → barred p k (some m) ≡ false → m ≡ p
hold_owner p k m h r =
    ⊎_elim (λ e. eqb-true m p e)
    (λ e. absurd (false≢true (sym r ∙ and_make ((acquiring k && true) || releasing k) (not (eqb m p)) (busy (acquiring k) (releasing k) h) (ap not e))))
    (decide (eqb m p))
  where
    busy : (a b : Bool) → (a || b) ≡ true → ((a && true) || b) ≡ true
    busy true b e = refl
    busy false b e = e

hold_one : (p q : ℕ) (k j : ℕ) (h : Option ℕ) → releasing k ≡ true → syncs j ≡ true → barred p k h ≡ false → barred q j h ≡ false → p ≡ q
hold_one p q k j none r e x y =
    absurd (false≢true (sym x ∙ and_make ((acquiring k && false) || releasing k) true (or_right (acquiring k && false) (releasing k) r) refl))
hold_one p q k j (some m) r e x y = sym (hold_owner p k m (or_right (acquiring k) (releasing k) r) x) ∙ hold_owner q j m e y

module _ (c : Case) (s : State) (t : Commit) (G : Good s) (S : SureCommit c s t) where
  T : CanTake c s t
  T = can_take c s t S.accepted

  unread : reading (kind_of (self s t)) ≡ false
  unread = sure_unread (kind_of (self s t)) S.kinds

  unacquired : acquiring (kind_of (self s t)) ≡ false
  unacquired = sure_unacquired (kind_of (self s t)) S.kinds

  -- another commit
  module _ (u : Commit) (h : step_code c s (as_step u) ≡ 0) where
    U : CanTake c s u
    U = can_take c s u h

    -- one action: the same step
    one : u.action ≡ t.action → as_step u ≡ as_step t
    one e = λ z. commit (procs z) (e z) ((source_zero c s u U (ap (λ (k : ℕ). reading (kind_of (s.actions k))) e ∙ unread) ∙ sym (source_zero c s t T unread)) z)
      where
        procs : u.proc ≡ t.proc
        procs = sym (waits_proc u.proc (self s u) U.waits) ∙ ap (λ (k : ℕ). (s.actions k).proc) e ∙ waits_proc t.proc (self s t) T.waits

    module _ (d : t.action ≡ u.action → ⊥) where
      locks : syncs (kind_of (self s t)) ≡ true → syncs (kind_of (self s u)) ≡ true → input s t 0 ≡ input s u 0 → ⊥
      locks e q x =
          ⊎_elim (λ p. queue (eqb-true t.proc u.proc p)) (λ p. eqb-false t.proc u.proc p owner) (decide (eqb t.proc u.proc))
        where
          rel : releasing (kind_of (self s t)) ≡ true
          rel =
              ⊎_elim (λ a. absurd (false≢true (sym unacquired ∙ a))) (λ r. r)
              (or_cases (acquiring (kind_of (self s t))) (releasing (kind_of (self s t))) e)

          owner : t.proc ≡ u.proc
          owner =
              hold_one t.proc u.proc (kind_of (self s t)) (kind_of (self s u)) (s.holders (input s t 0)) rel q T.allowed
              (subst (λ (l : ℕ). barred u.proc (kind_of (self s u)) (s.holders l) ≡ false) (sym x) U.allowed)

          idle : (v : Commit) → CanTake c s v → (s.actions v.action).result ≡ none
          idle v C = waits-none v.proc (self s v) C.waits

          mine : (v : Commit) → CanTake c s v → (s.actions v.action).proc ≡ v.proc
          mine v C = waits_proc v.proc (self s v) C.waits

          queue : t.proc ≡ u.proc → ⊥
          queue p =
              ⊎_elim (λ o. unheld c s t T u.action (ltb-true _ _ o) (mine u U ∙ sym p) (idle u U) (release_held (kind_of (self s t)) _ _ rel))
              (λ o. unheld c s u U t.action (omega (arith, ltb-false u.action t.action o)) (mine t T ∙ p) (idle t T) (sync_held (kind_of (self s u)) (kind_of (self s t)) _ q rel))
              (decide (ltb u.action t.action))

      pub apart : Apart c s t u
      apart =
          record {
            differ = d;
            locks = locks;
            lone = λ a b e. d (G.alone u.proc t.action u.action (turning_at c s t T u.proc e a) (turning_at c s u U u.proc refl b));
          }

      commit_diamond : Diamond c (λ n. Good) (IsSureCommit c) ◌≡◌ s (as_step t) (as_step u)
      commit_diamond =
          let M = commits_move c s t u (unread_after c s t u T U apart unread) (can_after c s u t U T (turned c s t u apart) unacquired) (sym (commits_meet c s u t U T (turned c s t u apart) unacquired)) in
          record { still = sure_commit t (record { accepted = M.still; kinds = rw (after-take c s u, (kept c s t u T U apart).same) S.kinds }); other = as_step u; fits = M.fits; meets = M.meets }

  -- an issue
  issue_diamond : (q : ℕ) → step_code c s (issue q) ≡ 0 → Diamond c (λ n. Good) (IsSureCommit c) ◌≡◌ s (as_step t) (issue q)
  issue_diamond q h =
      let M = commit_moves c s G t S.accepted q h in
      record { still = sure_commit t (record { accepted = M.still; kinds = rw (after_issue c s q, issued_old c s q t.action T.there) S.kinds }); other = issue q; fits = M.fits; meets = M.meets }

  pub diamond : (u : Step) → step_code c s u ≡ 0 → (u ≡ as_step t) ⊎ Diamond c (λ n. Good) (IsSureCommit c) ◌≡◌ s (as_step t) u
  diamond (issue q) h = inr (issue_diamond q h)
  diamond (commit p k e) h =
      ⊎_elim (λ x. inl (one (the p k e) h (eqb-true _ _ x)))
      (λ x. inr (commit_diamond (the p k e) h (λ y. eqb-false _ _ x (sym y))))
      (decide (eqb k t.action))
  diamond neither h = absurd (neither_no c s h)

module _ (c : Case) where
  pub accepted : (s : State) (t : Step) → IsSureCommit c s t → step_code c s t ≡ 0
  accepted s t (sure_commit v S) = S.accepted

  pub meets : (s : State) (t u : Step) → Good s → IsSureCommit c s t → step_code c s u ≡ 0 → (u ≡ t) ⊎ Diamond c (λ n. Good) (IsSureCommit c) ◌≡◌ s t u
  meets s t u G (sure_commit v S) h = diamond c s v G S u h

  pub laws : Laws c (λ n. Good) (IsSureCommit c) ◌≡◌
  laws =
      record {
        kept = λ n s t G h. good_step c s G t h;
        taken = accepted;
        diamond = λ n. meets;
        last = λ s t u G S h. ⊎_elim (λ e. inl e) (λ d. inr (diamond_last c (λ n. Good) (IsSureCommit c) ◌≡◌ s t u accepted d)) (meets s t u G S h);
        outcomes = λ a b n r e d. subst (λ (s : State). Done c s n r) e d;
        cuts = λ a b n e d. subst (λ (s : State). Open c s n) e d;
      }
