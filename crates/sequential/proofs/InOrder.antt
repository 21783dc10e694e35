-- All sequential runs of a case, looked at one by one. Assumes nothing.
use mathlib.Core.Path.{◌≡◌, refl, sym, ◌∙◌, subst}
use mathlib.Core.Bool.{Bool, true, ◌&&◌, cond, not, false≢true}
use mathlib.Core.List.{List, [], ◌∷◌}
use Prim.Native.Nat.{ℕ, zero, suc, ◌<◌}
use native.Mathlib.Omega.{arith}
use lib.Dec.{eqb}
use borrow.Author.Tests.{eq-eqb, not-true}
use Rattle.words.specs.Small.{all, counting, some_below}
use Rattle.words.proofs.Bools.{and_both, and_make, all_at, below_make, cond-true}
use Rattle.cases.specs.declared.Case.{Case}
use Rattle.runs.proofs.Walk.{Walk, stop, go, walk}
use Rattle.rules.specs.State.{State, initial}
use Rattle.rules.specs.Issue.{issued}
use Rattle.rules.specs.Step.{Step, issue, commit, step_code, after}
use Rattle.rules.specs.Womm.{womm}
use Rattle.rules.proofs.Accepted.{counting_mem, can_issue, after_issue, after_commit}
use Rattle.races.specs.Race.{Race, clear}
use Rattle.races.specs.Test.{races}
use Rattle.races.proofs.Racing.{race_test}
use Rattle.sequential.specs.InOrder.{source, ran, in_order, NeverRacesInOrder}

-- no two actions race
abbrev still : State → Bool
still s = not (some_below s.count (λ k. some_below k (λ j. races s j k)))

module _ (c : Case) where
  -- processor p may run its next instruction
  abbrev ready : State → ℕ → Bool
  ready s p = eqb (step_code c s (issue p)) 0 && eqb (step_code c (issued c s p) (commit p s.count (source c s p))) 0

  -- of all runs of at most n instructions from s, none has a race and none can go on
  unfoldable pub looked : ℕ → State → Bool
  looked zero s = still s && all (λ p. not (ready s p)) (counting 0 c.procs)
  looked (suc n) s = still s && all (λ p. cond (ready s p) (looked n (ran c s p)) true) (counting 0 c.procs)

  still_now : (n : ℕ) (s : State) → looked n s ≡ true → still s ≡ true
  unfolding looked
  still_now zero s h = (and_both (still s) _ h).0
  still_now (suc n) s h = (and_both (still s) _ h).0

  -- and after the next instruction of p
  then_looked : (n : ℕ) (s : State) (p : ℕ) → p < c.procs → ready s p ≡ true → looked (suc n) s ≡ true → looked n (ran c s p) ≡ true
  unfolding looked
  then_looked n s p l r h = sym (cond-true (ready s p) _ true r) ∙ all_at (λ q. cond (ready s q) (looked n (ran c s q)) true) (counting_mem c.procs 0 p (omega arith) (omega arith)) (and_both (still s) _ h).1

  none_ready : (s : State) (p : ℕ) → p < c.procs → ready s p ≡ true → looked zero s ≡ true → ⊥
  unfolding looked
  none_ready s p l r h = false≢true (sym (not-true (ready s p) (all_at (λ q. not (ready s q)) (counting_mem c.procs 0 p (omega arith) (omega arith)) (and_both (still s) _ h).1)) ∙ r)

  module _ (s e : State) (p : ℕ) (ts : List Step) (h : step_code c s (issue p) ≡ 0) (w : Walk (womm c) (after c s (issue p)) (commit p s.count (source c s p) ∷ ts) e) where
    -- both steps of an instruction
    both_steps : (ready s p ≡ true) × Walk (womm c) (ran c s p) ts e
    both_steps = step (subst (λ (z : State). Walk (womm c) z (commit p s.count (source c s p) ∷ ts) e) (after_issue c s p) w)
      where
        step : Walk (womm c) (issued c s p) (commit p s.count (source c s p) ∷ ts) e → (ready s p ≡ true) × Walk (womm c) (ran c s p) ts e
        step (go g v) = (and_make _ _ (eq-eqb _ 0 h) (eq-eqb _ 0 g), subst (λ (z : State). Walk (womm c) z ts e) (after_commit c (issued c s p) p s.count (source c s p)) v)

  still_then : (n : ℕ) (s e : State) (ps : List ℕ) → looked n s ≡ true → Walk (womm c) s (in_order c s ps) e → still e ≡ true
  still_then n s e [] h (stop q) = subst (λ (z : State). still z ≡ true) q (still_now n s h)
  still_then zero s e (p ∷ ps) h (go g w) = let b = both_steps s e p (in_order c (ran c s p) ps) g w in absurd (none_ready s p (can_issue c s p g).proc b.0 h)
  still_then (suc n) s e (p ∷ ps) h (go g w) =
      let b = both_steps s e p (in_order c (ran c s p) ps) g w in
      still_then n (ran c s p) e ps (then_looked n s p (can_issue c s p g).proc b.0 h) b.1

  pub never_races : (n : ℕ) → looked n (initial c) ≡ true → NeverRacesInOrder c
  never_races n h ps s d = clear refl refl none
    where
      none : (i m : ℕ) → Race (in_order c (initial c) ps) s i m → ⊥
      none i m r =
          false≢true
          (sym (not-true (some_below s.count (λ k. some_below k (λ j. races s j k))) (still_then n (initial c) s ps h (walk (womm c) (in_order c (initial c) ps) (initial c) s d)))
          ∙ below_make s.count (λ k. some_below k (λ j. races s j k)) m r.there (below_make m (λ j. races s j m) i r.first ((race_test c (in_order c (initial c) ps) s d i m r.first r.there).0 r)))
