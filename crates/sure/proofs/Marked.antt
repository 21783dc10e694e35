-- Once the cut mark is set every issue may be taken alone: a run that finishes issues it at last, so there is room for it: outcome-issue. A run that
-- is cut may do without it, so the mark has to be set: told-alone. Assumes nothing.
use mathlib.Core.Path.{◌≡◌, refl, sym, ◌∙◌, ap, subst}
use mathlib.Core.Logic.{◌⊎◌, inl, inr, ⊎_elim, ◌↔◌}
use mathlib.Core.Bool.{Bool, true, false, cond, false≢true}
use mathlib.Core.List.{List}
use mathlib.Core.Option.{some}
use Prim.Native.Nat.{ℕ, zero, suc, ◌≤◌, ◌<◌}
use native.Mathlib.Omega.{arith}
use lib.Dec.{eqb, leb}
use borrow.Author.Tests.{eqb-true, eqb-false, lt-leb, leb-false}
use Rattle.words.specs.Small.{is_none, or_zero, put}
use Rattle.words.proofs.Bools.{decide, and_both, put_other}
use Rattle.cases.specs.Case.{count_of}
use Rattle.cases.specs.declared.Case.{Case}
use Rattle.runs.specs.Outcome.{OutcomeFrom, Leads}
use Rattle.runs.specs.Wanted.{Wish}
use Rattle.runs.proofs.Walk.{walk}
use Rattle.rules.specs.Kinds.{branching, label_of}
use Rattle.rules.specs.Commit.{committed}
use Rattle.rules.specs.Result.{finished}
use Rattle.rules.specs.State.{State, kind_of, initial}
use Rattle.rules.specs.Step.{Step, issue, commit, neither, after, step_code}
use Rattle.rules.specs.Issue.{issued}
use Rattle.rules.specs.Womm.{womm}
use Rattle.rules.proofs.Accepted.{still, can_issue, CanIssue, after_issue, neither_no, finished_still}
use Rattle.sure.specs.Marked.{Alone, is_issue}
use Rattle.sure.specs.Spent.{Spent, Else}
use Rattle.sure.specs.Sure.{Sized}
use Rattle.sure.specs.Told.{Done, Question, outcome, cut, Run, Told}
use Rattle.sure.proofs.Good.{Good, good, good_step, good_initial, turning_at}
use Rattle.sure.proofs.Pairs.{stays}
use Rattle.sure.proofs.Moves.{commit_moves, issues_pass}
use Rattle.sure.proofs.Reduce.{done_from, done_to}
use Rattle.sure.proofs.Known.{Known}
use Rattle.sure.proofs.Sweep.{Sweep, Tested, runs}
use Rattle.sure.proofs.Whole.{count-after}
use Rattle.sure.proofs.Commit.{Commit, CanTake, the, self, input, committed_by, can_take, after-take}
use Rattle.sure.proofs.Whole

-- processor p has an instruction to issue
record Unended (c : Case) (s : State) (p : ℕ) : Type 0 where
  proc : p < c.procs
  place : is_none (s.places p) ≡ false
  inside : leb (count_of c p) (or_zero (s.places p)) ≡ false

unended_of : {c : Case} {s s' : State} {p : ℕ} → s'.places p ≡ s.places p → Unended c s p → Unended c s' p
unended_of e U = record { proc = U.proc; place = rw e U.place; inside = rw e U.inside }

-- a place that is defined stays, whatever is committed
place_kept : (c : Case) (s : State) (p : ℕ) (u : Commit) → Good s → is_none (s.places p) ≡ false → CanTake c s u → (committed_by c s u).places p ≡ s.places p
unfolding committed
place_kept c s p u G h U = step (branching (kind_of (self s u))) refl
  where
    step : (b : Bool) → branching (kind_of (self s u)) ≡ b
        → cond b (put s.places u.proc (some (cond (eqb (input s u 0) 0) (suc (self s u).place) (label_of (self s u).instr)))) s.places p ≡ s.places p
    step true e = put_other s.places u.proc p _ λ q. false≢true (sym h ∙ G.halts p u.action (turning_at c s u U p (sym q) e))
    step false e = refl

-- a run that finishes has room for it
room_ahead : (c : Case) {n : ℕ} {r : List ℕ} (s : State) (p : ℕ) → Good s → Unended c s p → Done c s n r → leb 48 s.count ≡ false
room_ahead c s p G U (Done.now f e) = absurd (omega (arith, leb-false (count_of c p) (or_zero (s.places p)) U.inside, (still c s f p U.proc).1))
room_ahead c s p G U (Done.later (issue q) h d) = (can_issue c s q h).room
room_ahead c s p G U (Done.later (commit q j e) h d) =
    let u = the q j e in
    let same = ap (λ (x : State). x.places p) (after-take c s u) ∙ place_kept c s p u G U.place (can_take c s u h) in
    let more = leb-false 48 (after c s (commit q j e)).count (room_ahead c (after c s (commit q j e)) p (good_step c s G (commit q j e) h) (unended_of same U) d) in
    lt-leb 48 s.count (omega (arith, (count-after c s (commit q j e)).0))
room_ahead c s p G U (Done.later neither h d) = absurd (neither_no c s h)

module _ (c : Case) where
  unended : (s : State) (p : ℕ) → step_code c s (issue p) ≡ 0 → Unended c s p
  unended s p h = let I = can_issue c s p h in record { proc = I.proc; place = I.place; inside = I.inside }

  -- no step to go, and one that is accepted
  not_done : (s : State) (t : Step) (r : List ℕ) → step_code c s t ≡ 0 → Done c s zero r → ⊥
  not_done s t r h (Done.now f e) = finished_still c s f t h

  -- two accepted issues of a run that finishes leave room for both
  space : (s : State) (p q : ℕ) → Good s → step_code c s (issue p) ≡ 0 → step_code c s (issue q) ≡ 0 → (p ≡ q → ⊥) → {n : ℕ} {r : List ℕ}
      → Done c (after c s (issue q)) n r → leb 48 (suc s.count) ≡ false
  unfolding issued
  space s p q G h g d D =
      let same = ap (λ (x : State). x.places p) (after_issue c s q) ∙ (stays c s q p G (can_issue c s q g) (can_issue c s p h) (λ e. d (sym e))).places in
      ap (λ (x : State). leb 48 x.count) (sym (after_issue c s q)) ∙ room_ahead c (after c s (issue q)) p (good_step c s G (issue q) g) (unended_of same (unended s p h)) D

  -- the first step u of a run that finishes, and the issue, in either order
  pub done_issue : (n : ℕ) (s : State) (p : ℕ) (r : List ℕ) → Good s → step_code c s (issue p) ≡ 0 → Done c s (suc n) r → Done c (after c s (issue p)) n r
  done_issue n s p r G h (Done.now f e) = absurd (finished_still c s f (issue p) h)
  done_issue n s p r G h (Done.later neither g d) = absurd (neither_no c s g)
  done_issue zero s p r G h (Done.later (commit q j e) g d) =
      absurd (not_done (after c s (commit q j e)) (issue p) r (commit_moves c s G (the q j e) g p h).fits d)
  done_issue (suc n) s p r G h (Done.later (commit q j e) g d) =
      let M = commit_moves c s G (the q j e) g p h in
      Done.later (commit q j e) M.still (subst (λ (x : State). Done c x n r) (sym M.meets) (done_issue n (after c s (commit q j e)) p r (good_step c s G (commit q j e) g) M.fits d))
  done_issue zero s p r G h (Done.later (issue q) g d) =
      ⊎_elim (λ e. subst (λ (i : ℕ). Done c (after c s (issue i)) zero r) (eqb-true q p e) d)
      (λ e. let x : p ≡ q → ⊥ = λ z. eqb-false q p e (sym z) in
      absurd (not_done (after c s (issue q)) (issue p) r (issues_pass c s G p q h g x (space s p q G h g x d)).still d))
      (decide (eqb q p))
  done_issue (suc n) s p r G h (Done.later (issue q) g d) =
      ⊎_elim (λ e. subst (λ (i : ℕ). Done c (after c s (issue i)) (suc n) r) (eqb-true q p e) d)
      (λ e. let x : p ≡ q → ⊥ = λ z. eqb-false q p e (sym z) in
      let M = issues_pass c s G p q h g x (space s p q G h g x d) in
      Done.later (issue q) M.fits
      ((Whole.laws c).outcomes (after c (after c s (issue q)) (issue p)) (after c (after c s (issue p)) (issue q)) n r M.meets (done_issue n (after c s (issue q)) p r (good_step c s G (issue q) g) M.still d)))
      (decide (eqb q p))

  -- THE THEOREM: at a state that an accepted schedule leads to, an accepted issue may be taken alone, for outcomes.
  pub outcome_issue : (s : State) (ts : List Step) → Leads (womm c) (initial c) ts s → (p : ℕ) → step_code c s (issue p) ≡ 0 → (n : ℕ) (r : List ℕ)
      → OutcomeFrom (womm c) s (suc n) r ↔ OutcomeFrom (womm c) (after c s (issue p)) n r
  outcome_issue s ts w p h n r = (
    λ o. done_from c n (done_issue n s p r (good c (walk (womm c) ts (initial c) s w) (good_initial c)) h (done_to c (suc n) s r o)),
    λ o. done_from c (suc n) (Done.later (issue p) h (done_to c n (after c s (issue p)) r o)),
  )

-- THE THEOREM for code: a step that may be taken alone, done with, is enough, where the mark says that the cut is told
pub told-alone : (c : Case) (W : Wish) (Z : Sized c) (s : State) (sp : Spent) (K : Known c s) (n : ℕ) {now : Spent} {B X : Question → Type 0}
    → Sweep c W sp s n now B X → (marked : Bool) → (marked ≡ true → B cut) → (t : Step) → step_code c s t ≡ 0 → Alone c marked (suc n) s t
    → Tested c W sp s n X t → Told c W sp s (suc n) B X
told-alone c W Z s sp K n {X = X} S marked M t h a T =
    record {
      kept = S.kept;
      sound = S.sound;
      full = λ q d.
          ⊎_elim (λ p. T q ((runs c W Z q).alone s t n K h p d))
          (λ p. let b = and_both marked (is_issue t) p in by_mark t h b.1 (S.kept cut (M b.0)) T q d)
          a;
    }
  where
    by_mark : (t : Step) → step_code c s t ≡ 0 → is_issue t ≡ true → X cut → Tested c W sp s n X t → (q : Question) → Run c W q s (suc n)
        → X q ⊎ Else c sp (Run c W q) s (suc n)
    by_mark (issue p) h i x T (outcome r) d = T (outcome r) (done_issue c n s p r K.reached.good h d.0, d.1)
    by_mark (issue p) h i x T cut d = inl x
    by_mark (commit p k e) h i x T q d = absurd (false≢true i)
    by_mark neither h i x T q d = absurd (false≢true i)
