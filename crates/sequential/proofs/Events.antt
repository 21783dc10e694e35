-- The issue and the commit of an action, found in the schedule. Assumes nothing.
use mathlib.Core.Path.{◌≡◌, sym, ◌∙◌, ap, subst}
use mathlib.Core.Bool.{true, false≢true}
use mathlib.Core.List.{List, [], ◌∷◌}
use Prim.Native.Nat.{ℕ, ◌≤◌, ◌<◌}
use native.Mathlib.Omega.{arith}
use Rattle.words.specs.Small.{is_none}
use Rattle.cases.specs.declared.Case.{Case}
use Rattle.runs.proofs.Walk.{Walk, stop, go}
use Rattle.rules.specs.State.{State, Action}
use Rattle.rules.specs.Issue.{issued}
use Rattle.rules.specs.Commit.{committed}
use Rattle.rules.specs.Step.{Step, issue, commit, neither, after}
use Rattle.rules.specs.Womm.{womm}
use Rattle.rules.proofs.Accepted.{CanIssue, CanCommit, can_issue, can_commit, after_issue, after_commit, neither_no}
use Rattle.rules.proofs.Actions.{either, issued_old, issued_new, issued_count, committed_other, committed_count}
use Rattle.rules.proofs.Strict.{Done}
use Rattle.sequential.proofs.Steady.{Steady, steady_step}

-- action k was issued at a state, from which the schedule leads on to f
pub record Issued (c : Case) (f : State) (k : ℕ) : Type 0 where
  pub state : State
  pub proc : ℕ
  pub can : CanIssue c state proc
  pub next : state.count ≡ k
  pub steady : Steady state
  pub all : List Step
  pub walk : Walk (womm c) state all f
  pub steps : List Step
  pub rest : Walk (womm c) (issued c state proc) steps f

-- and committed at another
pub record Settles (c : Case) (f : State) (k : ℕ) : Type 0 where
  pub state : State
  pub proc : ℕ
  pub source : ℕ
  pub can : CanCommit c state proc k source
  pub steady : Steady state
  pub all : List Step
  pub walk : Walk (womm c) state all f
  pub steps : List Step
  pub rest : Walk (womm c) (committed c state proc k source) steps f

pub issued_then : (c : Case) (ts : List Step) (s f : State) → Walk (womm c) s ts f → Steady s → (k : ℕ) → s.count ≤ k → k < f.count → Issued c f k
issued_then c [] s f (stop q) S k l h = absurd (omega (arith, ap (λ (z : State). z.count) q))
issued_then c (issue p ∷ ts) s f (go q w) S k l h =
    either s.count k
    (λ e. record { state = s; proc = p; can = can_issue c s p q; next = e; steady = S; all = issue p ∷ ts; walk = go q w; steps = ts; rest = subst (λ (z : State). Walk (womm c) z ts f) (after_issue c s p) w })
    (λ n. issued_then c ts (after c s (issue p)) f w (steady_step c s (issue p) q S) k (omega (arith, ap (λ (z : State). z.count) (after_issue c s p), issued_count c s p)) h)
issued_then c (commit p j e ∷ ts) s f (go q w) S k l h =
    issued_then c ts (after c s (commit p j e)) f w (steady_step c s (commit p j e) q S) k (omega (arith, ap (λ (z : State). z.count) (after_commit c s p j e), committed_count c s p j e)) h
issued_then c (neither ∷ ts) s f (go q w) S k l h = absurd (neither_no c s q)

pub settled_then : (c : Case) (ts : List Step) (s f : State) → Walk (womm c) s ts f → Steady s → (k : ℕ) → is_none (s.actions k).result ≡ true → Done f k → Settles c f k
settled_then c [] s f (stop q) S k n d = absurd (false≢true (sym d ∙ ap (λ (z : State). is_none (z.actions k).result) (sym q) ∙ n))
settled_then c (issue p ∷ ts) s f (go q w) S k n d = settled_then c ts (after c s (issue p)) f w (steady_step c s (issue p) q S) k (ap (λ (z : State). is_none (z.actions k).result) (after_issue c s p) ∙ either k s.count (λ e. ap (λ (i : ℕ). is_none ((issued c s p).actions i).result) e ∙ ap (λ (a : Action). is_none a.result) (issued_new c s p)) (λ e. ap (λ (a : Action). is_none a.result) (issued_old c s p k e) ∙ n)) d
settled_then c (commit p j e ∷ ts) s f (go q w) S k n d =
    either j k
    (λ i. subst (Settles c f) i (record { state = s; proc = p; source = e; can = can_commit c s p j e q; steady = S; all = commit p j e ∷ ts; walk = go q w; steps = ts; rest = subst (λ (z : State). Walk (womm c) z ts f) (after_commit c s p j e) w }))
    (λ i. settled_then c ts (after c s (commit p j e)) f w (steady_step c s (commit p j e) q S) k (ap (λ (z : State). is_none (z.actions k).result) (after_commit c s p j e) ∙ ap (λ (a : Action). is_none a.result) (committed_other c s p j e k (λ x. i (sym x))) ∙ n) d)
settled_then c (neither ∷ ts) s f (go q w) S k n d = absurd (neither_no c s q)
