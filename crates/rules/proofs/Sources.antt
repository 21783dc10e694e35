-- After every accepted schedule the items that a commit may name are those of the actions issued and the initial writes. Assumes nothing.
use Rattle.std.proofs.Common.{◌≡◌, ℕ, ◌+◌, ◌-◌, ◌<◌, ◌≤◌, Bool, true, false, not, ◌&&◌, eqb, ◌⊎◌, sym, refl, ap, ◌∙◌, subst, inl, inr, ⊎_elim, arith, le-ltb, eqb-true}
use mathlib.Core.Bool.{false≢true}
use mathlib.Core.Option.{none}
use native.Mathlib.Decide.{dec_lt}
use Rattle.words.specs.Small.{is_none}
use Rattle.words.proofs.Bools.{decide}
use Rattle.cases.specs.declared.Case.{Case}
use Rattle.rules.specs.Kinds.{reading, writing}
use Rattle.rules.specs.State.{State, Action, initial, kind_of, item_value}
use Rattle.rules.specs.Issue.{issued}
use Rattle.rules.specs.Commit.{committed}
use Rattle.rules.specs.Step.{Step, step_code, after}
use Rattle.rules.proofs.Accepted.{CanCommit, sees_cases}
use Rattle.rules.proofs.Actions.{by_step, issued_old, issued_count, committed_other, committed_count, item_cases}

-- an action that is not issued has no result
abbrev pub Unset : State → Type 0
Unset s = (k : ℕ) → s.count ≤ k → (s.actions k).result ≡ none

pub unset_initial : (c : Case) → Unset (initial c)
unset_initial c k h = refl

unset_issue : (c : Case) (s : State) (p : ℕ) → Unset s → Unset (issued c s p)
unset_issue c s p u k h = ap (λ (a : Action). a.result) (issued_old c s p k (λ e. omega (arith, issued_count c s p))) ∙ u k (omega (arith, issued_count c s p))

unset_commit : (c : Case) (s : State) (p k e : ℕ) → CanCommit c s p k e → Unset s → Unset (committed c s p k e)
unset_commit c s p k e T u j h = ap (λ (a : Action). a.result) (committed_other c s p k e j (λ q. omega (arith, T.there, committed_count c s p k e))) ∙ u j (omega (arith, committed_count c s p k e))

pub unset_step : (c : Case) (s : State) (t : Step) → step_code c s t ≡ 0 → Unset s → Unset (after c s t)
unset_step c s t = by_step c (λ n. Unset) (λ n s p I. unset_issue c s p) (λ n s p k e T. unset_commit c s p k e T) 0 s t

-- item e is the initial write of a location, or that of an action issued
abbrev pub Known : State → ℕ → ℕ → Type 0
Known s l e = ((e < 8) × (e ≡ l)) ⊎ ((j : ℕ) × (e ≡ 8 + j) × (j < s.count))

module _ (c : Case) (s : State) (u : Unset s) (p k e : ℕ) (T : CanCommit c s p k e) where
  pub source_known : reading (kind_of (s.actions k)) ≡ true → Known s (s.actions k).loc e
  source_known r =
      let l = (s.actions k).loc in
      let w = sees_cases c s p k e T r in
      ⊎_elim (λ q. inl (q.0, eqb-true e l q.1)) (λ q. inr (q.0, q.1, issued_one_lem q.0 q.1 w.known)) (item_cases (eqb e l) (λ a. writing (kind_of a) && eqb a.loc l) s e w.one)
    where
      -- it has a value
      issued_one_lem : (j : ℕ) → e ≡ 8 + j → is_none (item_value c s e) ≡ false → j < s.count
      issued_one_lem j q v = elim (dec_lt j s.count) [ yes h ↦ h | no h ↦ absurd (false≢true (sym v ∙ ap is_none (none_there (omega arith)))) ]
        where
          none_there : s.count ≤ j → item_value c s e ≡ none
          none_there h = rw (le-ltb e 8 (omega arith)) (u (e - 8) (omega arith))

  pub source_zero : reading (kind_of (s.actions k)) ≡ false → e ≡ 0
  source_zero r = step (eqb e 0) refl (subst (λ (b : Bool). (not (eqb e 0) && not b) ≡ false) r T.plain)
    where
      step : (b : Bool) → eqb e 0 ≡ b → (not b && true) ≡ false → e ≡ 0
      step true q h = eqb-true e 0 q
      step false q h = absurd (false≢true (sym h))

  -- so it is below 8 + the actions issued
  pub source_low : e < 8 + s.count
  source_low = ⊎_elim (λ r. ⊎_elim (λ q. omega (arith, q.0)) (λ q. omega (arith, q.1, q.2)) (source_known r)) (λ r. omega (arith, source_zero r)) (decide (reading (kind_of (s.actions k))))
