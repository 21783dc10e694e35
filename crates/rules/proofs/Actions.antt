-- What a step makes of the actions, and items by their actions. Assumes nothing.
use Rattle.std.proofs.Common.{◌≡◌, ℕ, suc, ◌+◌, ◌-◌, ◌<◌, Bool, true, false, cond, eqb, ltb, ◌⊎◌, sym, refl, ap, ◌∙◌, inl, inr, ⊎_elim, arith, ltb-false, ltb-true, eqb-true}
use mathlib.Core.Bool.{false≢true}
use mathlib.Core.Option.{Option, none, some}
use borrow.Author.Tests.{eqb-false}
use Rattle.words.specs.Small.{is_none}
use Rattle.words.proofs.Bools.{decide, and_both, put_same, put_other}
use Rattle.cases.specs.declared.Case.{Case}
use Rattle.rules.specs.State.{State, Action, waiting, item_is}
use Rattle.rules.specs.Issue.{new_action, issued}
use Rattle.rules.specs.Commit.{settled, committed}
use Rattle.rules.specs.Step.{Step, issue, commit, neither, step_code, after}
use Rattle.rules.proofs.Accepted.{CanIssue, CanCommit, can_issue, can_commit, after_issue, after_commit, neither_no}

pub is_none_eq : {A : Type 0} (o : Option A) → is_none o ≡ true → o ≡ none
is_none_eq none h = refl
is_none_eq (some v) h = absurd (false≢true h)

module _ (p : ℕ) (a : Action) (h : waiting p a ≡ true) where
  pub waits-none : a.result ≡ none
  waits-none = is_none_eq a.result (and_both (eqb a.proc p) (is_none a.result) h).1

  pub waits_proc : a.proc ≡ p
  waits_proc = eqb-true a.proc p (and_both (eqb a.proc p) (is_none a.result) h).0

-- the same number or another
pub either : (x y : ℕ) {A : Type 0} → (x ≡ y → A) → ((x ≡ y → ⊥) → A) → A
either x y f g = ⊎_elim (λ e. f (eqb-true x y e)) (λ e. g (eqb-false x y e)) (decide (eqb x y))

-- what holds after an issue and after a commit holds after every accepted step
pub by_step : (c : Case) (P : ℕ → State → Type 0)
    → ((n : ℕ) (s : State) (p : ℕ) → CanIssue c s p → P n s → P (suc n) (issued c s p))
    → ((n : ℕ) (s : State) (p k e : ℕ) → CanCommit c s p k e → P n s → P (suc n) (committed c s p k e))
    → (n : ℕ) (s : State) (t : Step) → step_code c s t ≡ 0 → P n s → P (suc n) (after c s t)
by_step c P f g n s (issue p) h x = rw (after_issue c s p) (f n s p (can_issue c s p h) x)
by_step c P f g n s (commit p k e) h x = rw (after_commit c s p k e) (g n s p k e (can_commit c s p k e h) x)
by_step c P f g n s neither h x = absurd (neither_no c s h)

module _ (c : Case) (s : State) (p : ℕ) where
  pub issued_old : (k : ℕ) → (k ≡ s.count → ⊥) → (issued c s p).actions k ≡ s.actions k
  unfolding issued
  issued_old k h = put_other s.actions s.count k (new_action c s p) h

  pub issued_new : (issued c s p).actions s.count ≡ new_action c s p
  unfolding issued
  issued_new = put_same s.actions s.count s.count (new_action c s p) refl

  pub issued_count : (issued c s p).count ≡ suc s.count
  unfolding issued
  issued_count = refl

module _ (c : Case) (s : State) (p k e : ℕ) where
  pub committed_other : (j : ℕ) → (j ≡ k → ⊥) → (committed c s p k e).actions j ≡ s.actions j
  unfolding committed
  committed_other j h = put_other s.actions k j (settled c s p k e) h

  pub committed_self : (committed c s p k e).actions k ≡ settled c s p k e
  unfolding committed
  committed_self = put_same s.actions k k (settled c s p k e) refl

  pub committed_count : (committed c s p k e).count ≡ s.count
  unfolding committed
  committed_count = refl

  -- what no commit changes
  pub committed_keeps : {A : Type 0} (f : Action → A) → f (settled c s p k e) ≡ f (s.actions k) → (j : ℕ) → f ((committed c s p k e).actions j) ≡ f (s.actions j)
  committed_keeps f keeps j =
      either j k (λ q. ap (λ (i : ℕ). f ((committed c s p k e).actions i)) q ∙ ap f committed_self ∙ keeps ∙ ap (λ (i : ℕ). f (s.actions i)) (sym q)) (λ q. ap f (committed_other j q))

-- an item that passes a test is an initial write, or that of an action
module _ (b : Bool) (f : Action → Bool) (s : State) where
  pub item_high : (j e : ℕ) → e ≡ 8 + j → item_is b f s e ≡ f (s.actions j)
  item_high j e h = step (ltb e 8) refl
    where
      step : (x : Bool) → ltb e 8 ≡ x → cond x b (f (s.actions (e - 8))) ≡ f (s.actions j)
      step true q = absurd (omega (arith, ltb-true e 8 q))
      step false q = ap (λ (i : ℕ). f (s.actions i)) (omega arith)

  pub item_cases : (e : ℕ) → item_is b f s e ≡ true → ((e < 8) × (b ≡ true)) ⊎ ((j : ℕ) × (e ≡ 8 + j) × (f (s.actions j) ≡ true))
  item_cases e h = step (ltb e 8) refl h
    where
      step : (x : Bool) → ltb e 8 ≡ x → cond x b (f (s.actions (e - 8))) ≡ true → ((e < 8) × (b ≡ true)) ⊎ ((j : ℕ) × (e ≡ 8 + j) × (f (s.actions j) ≡ true))
      step true q k = inl (ltb-true e 8 q, k)
      step false q k = inr (e - 8, omega (arith, ltb-false e 8 q), k)
