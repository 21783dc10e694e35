-- A sure step, be it an issue or a commit, may be taken alone: outcome-alone, cut-alone. Assumes nothing.
use mathlib.Core.Path.{◌≡◌, refl, sym, ap, subst}
use mathlib.Core.Logic.{◌⊎◌, inl, inr, ⊎_elim, ◌↔◌}
use mathlib.Core.Bool.{true, false, false≢true}
use mathlib.Core.List.{List}
use Prim.Native.Nat.{ℕ, suc, ◌+◌, ◌≤◌, ◌<◌}
use native.Mathlib.Omega.{arith}
use lib.Dec.{eqb, leb}
use borrow.Author.Tests.{eqb-true, eqb-false, lt-leb, leb-false, leb-true}
use Rattle.words.specs.Small.{or_zero}
use Rattle.words.proofs.Bools.{or_cases, decide}
use Rattle.cases.specs.Case.{count_of}
use Rattle.cases.specs.declared.Case.{Case}
use Rattle.runs.specs.Outcome.{OutcomeFrom, CutFrom, Leads}
use Rattle.runs.proofs.Walk.{Walk, stop, go, walk}
use Rattle.rules.specs.Commit.{committed}
use Rattle.rules.specs.Result.{finished}
use Rattle.rules.specs.State.{initial, State}
use Rattle.rules.specs.Step.{Step, issue, commit, neither, after, step_code}
use Rattle.rules.specs.Issue.{issued}
use Rattle.rules.specs.Womm.{womm}
use Rattle.rules.proofs.Accepted.{after_issue, still, CanIssue, can_issue, neither_no}
use Rattle.sure.specs.Sure.{Sized, forward, sure, roomy}
use Rattle.sure.specs.Told.{Done, Open}
use Rattle.sure.proofs.Good.{Good, good_step, good_initial}
use Rattle.sure.proofs.Pairs.{stays}
use Rattle.sure.proofs.Moves.{Alike, same, turned, other_way, commit_moves, issues_pass}
use Rattle.sure.proofs.Reduce.{Diamond, Laws, diamond_last, open_to, done_sure, open_from, open_sure, done_to, done_from}
use Rattle.sure.proofs.Sure.{IsSureCommit, sure_commit}
use Rattle.sure.proofs.Renumber.{done_swap, open_swap}
use Rattle.sure.proofs.Room.{Forward, Counted, room, counted_step, counted-initial, forward_cases}
use Rattle.sure.proofs.Commit.{committed_by, as_step, Commit, the}
use Rattle.sure.proofs.Sure

-- what is known of a state with n steps to go: there is room for each issue
pub record Fine (c : Case) (n : ℕ) (s : State) : Type 0 where
  pub good : Good s
  pub room : (Forward c × Counted s) ⊎ (s.count + n ≤ 48)

-- an accepted issue
pub data IsSureIssue (c : Case) (s : State) : Step → Type 0 where
  sure_issue : (p : ℕ) → step_code c s (issue p) ≡ 0 → IsSureIssue c s (issue p)

count_issue : (c : Case) (s : State) (p : ℕ) → (issued c s p).count ≡ suc s.count
unfolding issued
count_issue c s p = refl

count_commit : (c : Case) (s : State) (t : Commit) → (committed_by c s t).count ≡ s.count
unfolding committed
count_commit c s t = refl

pub count-after : (c : Case) (s : State) (t : Step) → (s.count ≤ (after c s t).count) × ((after c s t).count ≤ suc s.count)
unfolding after
count-after c s (issue p) = let h = count_issue c s p in (omega arith, omega arith)
count-after c s (commit p k e) = let h = count_commit c s (the p k e) in (omega arith, omega arith)
count-after c s neither = (omega arith, omega arith)

not_at_end : (c : Case) (s s' : State) (p : ℕ) → s'.places p ≡ s.places p → CanIssue c s p → p < c.procs → finished c s' ≡ false
not_at_end c s s' p e I h =
    ⊎_elim
    (λ f. absurd (omega (arith, leb-false (count_of c p) (or_zero (s.places p)) I.inside, (still c s' f p h).1, ap or_zero e)))
    (λ f. f) (decide (finished c s'))

module _ (c : Case) where
  taken : (s : State) (t : Step) → IsSureIssue c s t → step_code c s t ≡ 0
  taken s t (sure_issue p h) = h

  module _ (s : State) (p : ℕ) (G : Good s) (h : step_code c s (issue p) ≡ 0) where
    I : CanIssue c s p
    I = can_issue c s p h

    past_commit : (u : Commit) → step_code c s (as_step u) ≡ 0 → Diamond c (Fine c) (IsSureIssue c) Alike s (issue p) (as_step u)
    past_commit u k =
        let M = other_way (commit_moves c s G u k p h) in
        record { still = sure_issue p M.still; other = as_step u; fits = M.fits; meets = same M.meets }

    module _ (q : ℕ) (k : step_code c s (issue q) ≡ 0) (d : p ≡ q → ⊥) where
      J : CanIssue c s q
      J = can_issue c s q k

      past_issue : leb 48 (suc s.count) ≡ false → Diamond c (Fine c) (IsSureIssue c) Alike s (issue p) (issue q)
      past_issue space =
          let M = issues_pass c s G p q h k d space in record { still = sure_issue p M.still; other = issue q; fits = M.fits; meets = M.meets }

      -- room for two, from what is known of s
      space : (n : ℕ) → (Forward c × Counted s) ⊎ (s.count + suc (suc n) ≤ 48) → leb 48 (suc s.count) ≡ false
      space n (inl f) = room c f.0 s G f.1 p q (omega (arith, I.proc, f.0.sized.few)) (omega (arith, J.proc, f.0.sized.few)) d I J
      space n (inr l) = lt-leb 48 (suc s.count) (omega arith)

      -- a processor that can issue is not at its end, and another's issue leaves it there
      both_last : (finished c (after c s (issue q)) ≡ false) × (finished c (after c s (issue p)) ≡ false)
      both_last =
          let d' : q ≡ p → ⊥ = λ e. d (sym e) in (
            rw (after_issue c s q) (not_at_end c s (issued c s q) p (stays c s q p G J I d').places I I.proc),
            rw (after_issue c s p) (not_at_end c s (issued c s p) q (stays c s p q G I J d).places J J.proc),
          )

    issue_diamond : (n : ℕ) → (Forward c × Counted s) ⊎ (s.count + suc (suc n) ≤ 48) → (u : Step) → step_code c s u ≡ 0
        → (u ≡ issue p) ⊎ Diamond c (Fine c) (IsSureIssue c) Alike s (issue p) u
    issue_diamond n r (issue q) k =
        ⊎_elim (λ e. inl (ap issue (eqb-true q p e)))
        (λ e. let d : p ≡ q → ⊥ = λ x. eqb-false q p e (sym x) in inr (past_issue q k d (space q k d n r)))
        (decide (eqb q p))
    issue_diamond n r (commit q j e) k = inr (past_commit (the q j e) k)
    issue_diamond n r neither k = absurd (neither_no c s k)

    issue_last : (u : Step) → step_code c s u ≡ 0 → (u ≡ issue p) ⊎ ((finished c (after c s u) ≡ false) × (finished c (after c s (issue p)) ≡ false))
    issue_last (issue q) k =
        ⊎_elim (λ e. inl (ap issue (eqb-true q p e))) (λ e. inr (both_last q k (λ x. eqb-false q p e (sym x)))) (decide (eqb q p))
    issue_last (commit q j e) k = inr (diamond_last c (Fine c) (IsSureIssue c) Alike s (issue p) (commit q j e) taken (past_commit (the q j e) k))
    issue_last neither k = absurd (neither_no c s k)

  meet : (n : ℕ) (s : State) (t u : Step) → Fine c (suc (suc n)) s → IsSureIssue c s t → step_code c s u ≡ 0
      → (u ≡ t) ⊎ Diamond c (Fine c) (IsSureIssue c) Alike s t u
  meet n s t u f (sure_issue p h) k = issue_diamond s p f.good h n f.room u k

  last : (s : State) (t u : Step) → Fine c 1 s → IsSureIssue c s t → step_code c s u ≡ 0
      → (u ≡ t) ⊎ ((finished c (after c s u) ≡ false) × (finished c (after c s t) ≡ false))
  last s t u f (sure_issue p h) k = issue_last s p f.good h u k

  outcomes : (a b : State) (n : ℕ) (r : List ℕ) → Alike a b → Done c a n r → Done c b n r
  outcomes a b n r (same e) d = subst (λ (s : State). Done c s n r) e d
  outcomes a b n r (turned m p e) d = subst (λ (s : State). Done c s n r) e (done_swap m c p d)

  cuts : (a b : State) (n : ℕ) → Alike a b → Open c a n → Open c b n
  cuts a b n (same e) d = subst (λ (s : State). Open c s n) e d
  cuts a b n (turned m p e) d = subst (λ (s : State). Open c s n) e (open_swap m c p d)

  pub fine_step : (n : ℕ) (s : State) (t : Step) → Fine c (suc n) s → step_code c s t ≡ 0 → Fine c n (after c s t)
  fine_step n s t f h =
      record {
        good = good_step c s f.good t h;
        room = ⊎_elim (λ r. inl (r.0, counted_step c r.0 s f.good r.1 t h)) (λ r. inr (omega (arith, (count-after c s t).1))) f.room;
      }

  pub laws : Laws c (Fine c) (IsSureIssue c) Alike
  laws = record { kept = fine_step; taken = taken; diamond = meet; last = last; outcomes = outcomes; cuts = cuts }

  -- what is known of each reachable state
  pub record Reached (s : State) : Type 0 where
    pub good : Good s
    pub counted : Forward c → Counted s

  pub reached : {s e : State} {ts : List Step} → Walk (womm c) s ts e → Reached s → Reached e
  reached (stop h) f = subst Reached h f
  reached (go {s = s} {t = t} h w) f = reached w (record { good = good_step c s f.good t h; counted = λ F. counted_step c F s f.good (f.counted F) t h })

  pub reached-initial : Reached (initial c)
  reached-initial = record { good = good_initial c; counted = λ F. counted-initial c }

  -- the same of runs, at a reachable state
  module _ (Z : Sized c) (s : State) (K : Reached s) (t : Step) (h : step_code c s t ≡ 0) (n : ℕ) (q : sure c (suc n) s t ≡ true) where
    -- it is sure by the laws of issues or by those of commits
    which : (IsSureIssue c s t × Fine c (suc n) s) ⊎ IsSureCommit c s t
    which = step t h q
      where
        roomy_cases : roomy c (suc n) s ≡ true → (Forward c × Counted s) ⊎ (s.count + suc n ≤ 48)
        roomy_cases h =
            ⊎_elim (λ f. let F = forward_cases c Z f in inl (F, K.counted F))
            (λ l. let m = leb-true (s.count + suc n) _ l in inr (omega arith))
            (or_cases (forward c) _ h)

        step : (t : Step) → step_code c s t ≡ 0 → sure c (suc n) s t ≡ true → (IsSureIssue c s t × Fine c (suc n) s) ⊎ IsSureCommit c s t
        step (issue p) h q = inl (sure_issue p h, record { good = K.good; room = roomy_cases q })
        step (commit p k e) h q = inr (sure_commit (the p k e) (record { accepted = h; kinds = q }))
        step neither h q = absurd (false≢true q)

    pub done_alone : (r : List ℕ) → Done c s (suc n) r → Done c (after c s t) n r
    done_alone r d =
        ⊎_elim
        (λ w. done_sure c (Fine c) (IsSureIssue c) Alike laws n s t r w.1 w.0 d)
        (λ S. done_sure c (λ k. Good) (IsSureCommit c) ◌≡◌ (Sure.laws c) n s t r K.good S d)
        which

    pub open_alone : Open c s (suc n) → Open c (after c s t) n
    open_alone d =
        ⊎_elim
        (λ w. open_sure c (Fine c) (IsSureIssue c) Alike laws n s t w.1 w.0 d)
        (λ S. open_sure c (λ k. Good) (IsSureCommit c) ◌≡◌ (Sure.laws c) n s t K.good S d)
        which

  -- THE THEOREM: at a state that an accepted schedule leads to, an accepted sure step may be taken alone, for outcomes and for the cut.
  module _ (Z : Sized c) (s : State) (ts : List Step) (w : Leads (womm c) (initial c) ts s) (t : Step) (h : step_code c s t ≡ 0) (n : ℕ) (q : sure c (suc n) s t ≡ true) where
    K : Reached s
    K = reached (walk (womm c) ts (initial c) s w) reached-initial

    pub outcome_alone : (r : List ℕ) → OutcomeFrom (womm c) s (suc n) r ↔ OutcomeFrom (womm c) (after c s t) n r
    outcome_alone r = (
      λ o. done_from c n (done_alone Z s K t h n q r (done_to c (suc n) s r o)),
      λ o. done_from c (suc n) (Done.later t h (done_to c n (after c s t) r o)),
    )

    pub cut_alone : CutFrom (womm c) s (suc n) ↔ CutFrom (womm c) (after c s t) n
    cut_alone = (
      λ o. open_from c (open_alone Z s K t h n q (open_to c (suc n) s o)),
      λ o. open_from c (Open.later t h (open_to c n (after c s t) o)),
    )
