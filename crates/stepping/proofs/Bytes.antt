-- The step that four bytes say. Assumes nothing.
use mathlib.Core.Path.{◌≡◌, refl, sym, ◌∙◌, ap}
use mathlib.Core.Logic.{⊎_elim}
use mathlib.Core.Bool.{Bool, true, false, cond, ◌&&◌}
use mathlib.Core.List.{◌∷◌}
use Prim.Native.Nat.{ℕ, ◌≤◌, ◌<◌}
use native.Mathlib.Omega.{arith}
use lib.Dec.{eqb, leb}
use borrow.Author.Tests.{ne_eqb, le-leb, lt-leb}
use Rattle.words.specs.Refusals.{◌when◌, first_code_of}
use Rattle.words.proofs.Bools.{decide}
use Rattle.words.proofs.First.{first, hit}
use Rattle.cases.specs.declared.Case.{Case}
use Rattle.rules.specs.State.{State}
use Rattle.rules.specs.Issue.{issue_refusals}
use Rattle.rules.specs.Commit.{commit_refusals}
use Rattle.rules.specs.Step.{Step, issue, commit, neither, step_of, step_code}

and_no : (b : Bool) → (b && false) ≡ false
and_no true = refl
and_no false = refl

module _ (kind p k e : ℕ) where
  step_issue : kind ≡ 0 → k ≡ 0 → e ≡ 0 → issue p ≡ step_of kind p k e
  step_issue h q r = rw (h, q, r)

  step_commit : kind ≡ 1 → commit p k e ≡ step_of kind p k e
  step_commit h = rw h

  pub step_kind : 1 < kind → neither ≡ step_of kind p k e
  step_kind h = rw (ne_eqb kind 0 (λ q. omega arith), ne_eqb kind 1 (λ q. omega arith))

  pub step_action : kind ≡ 0 → (k ≡ 0 → ⊥) → neither ≡ step_of kind p k e
  step_action h q = rw (h, ne_eqb k 0 q)

  pub step_source : kind ≡ 0 → (e ≡ 0 → ⊥) → neither ≡ step_of kind p k e
  step_source h q = rw (h, ne_eqb e 0 q, and_no (eqb k 0))

module _ (c : Case) (s : State) where
  pub code_neither : (t : Step) → neither ≡ t → 20 ≡ step_code c s t
  unfolding step_code
  code_neither t h = ap (step_code c s) h

  code_issue : (p : ℕ) → p < c.procs → first_code_of (issue_refusals c s p) ≡ step_code c s (issue p)
  unfolding step_code first_code_of
  code_issue p h = rw (lt-leb c.procs p h)

  code_commit : (p k e : ℕ) → p < c.procs → first_code_of (commit_refusals c s p k e) ≡ step_code c s (commit p k e)
  unfolding step_code first_code_of
  code_commit p k e h = rw (lt-leb c.procs p h)

  -- with the bytes widened
  pub issue_code : (kind p k e q : ℕ) → kind ≡ 0 → k ≡ 0 → e ≡ 0 → q ≡ p → p < c.procs → first_code_of (issue_refusals c s q) ≡ step_code c s (step_of kind p k e)
  issue_code kind p k e q z hk he hq lt = ap (λ (n : ℕ). first_code_of (issue_refusals c s n)) hq ∙ code_issue p lt ∙ ap (step_code c s) (step_issue kind p k e z hk he)

  pub commit_code : (kind p k e q j i : ℕ) → kind ≤ 1 → (kind ≡ 0 → ⊥) → q ≡ p → j ≡ k → i ≡ e → p < c.procs → first_code_of (commit_refusals c s q j i) ≡ step_code c s (step_of kind p k e)
  commit_code kind p k e q j i le z hq hj hi lt =
      (λ t. first_code_of (commit_refusals c s (hq t) (hj t) (hi t))) ∙ code_commit p k e lt ∙ ap (step_code c s) (step_commit kind p k e (omega arith))

  absent : (a b : Bool) (p k e : ℕ) → c.procs ≤ p → 20 ≡ step_code c s (cond a (issue p) (cond b (commit p k e) neither))
  unfolding step_code
  absent true b p k e h = first (20 when leb c.procs p ∷ issue_refusals c s p) (hit (le-leb c.procs p h))
  absent false true p k e h = first (20 when leb c.procs p ∷ commit_refusals c s p k e) (hit (le-leb c.procs p h))
  absent false false p k e h = refl

  pub code_absent : (kind p k e : ℕ) → c.procs ≤ p → 20 ≡ step_code c s (step_of kind p k e)
  code_absent kind p k e h = absent (eqb kind 0 && eqb k 0 && eqb e 0) (eqb kind 1) p k e h

  -- a step of kind 0 that does not get 20 is an issue, any other a commit
  pub issue_formed : (kind p k e : ℕ) → kind ≡ 0 → (step_code c s (step_of kind p k e) ≡ 20 → ⊥) → step_of kind p k e ≡ issue p
  issue_formed kind p k e h go = ⊎_elim yes no (decide (eqb k 0 && eqb e 0))
    where
      yes : (eqb k 0 && eqb e 0) ≡ true → step_of kind p k e ≡ issue p
      yes q = rw (h, q)

      no : (eqb k 0 && eqb e 0) ≡ false → step_of kind p k e ≡ issue p
      no q = absurd (go (sym (code_neither (step_of kind p k e) (rw (h, q)))))

  pub commit_formed : (kind p k e : ℕ) → (kind ≡ 0 → ⊥) → (step_code c s (step_of kind p k e) ≡ 20 → ⊥) → step_of kind p k e ≡ commit p k e
  commit_formed kind p k e h go = ⊎_elim yes no (decide (eqb kind 1))
    where
      yes : eqb kind 1 ≡ true → step_of kind p k e ≡ commit p k e
      yes q = rw (ne_eqb kind 0 h, q)

      no : eqb kind 1 ≡ false → step_of kind p k e ≡ commit p k e
      no q = absurd (go (sym (code_neither (step_of kind p k e) (rw (ne_eqb kind 0 h, q)))))

  -- the same of an accepted step
  pub issue_accepted : (kind p k e : ℕ) → kind ≡ 0 → step_code c s (step_of kind p k e) ≡ 0 → step_of kind p k e ≡ issue p
  issue_accepted kind p k e h go = issue_formed kind p k e h (λ q. omega (arith, q, go))

  pub commit_accepted : (kind p k e : ℕ) → (kind ≡ 0 → ⊥) → step_code c s (step_of kind p k e) ≡ 0 → step_of kind p k e ≡ commit p k e
  commit_accepted kind p k e h go = commit_formed kind p k e h (λ q. omega (arith, q, go))
