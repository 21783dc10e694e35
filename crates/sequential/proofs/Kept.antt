-- What accepted steps keep of the actions: all but their results, and a result once there is one. Assumes nothing.
use mathlib.Core.Path.{◌≡◌, refl, sym, ◌∙◌, ap, subst}
use mathlib.Core.Bool.{false, false≢true}
use mathlib.Core.List.{List, [], ◌∷◌}
use mathlib.Core.Option.{none}
use Prim.Native.Nat.{ℕ, zero, suc, ◌≤◌, ◌<◌}
use native.Mathlib.Omega.{arith}
use lib.ListN.{get_or}
use Rattle.words.specs.Small.{is_none, or_zero, any}
use Rattle.words.proofs.Bools.{or_none, or_false}
use Rattle.cases.specs.declared.Case.{Case}
use Rattle.runs.proofs.Walk.{Walk, stop, go}
use Rattle.rules.specs.State.{State, Action, Name, start, given, value_of, input_of}
use Rattle.rules.specs.Issue.{issued}
use Rattle.rules.specs.Commit.{committed}
use Rattle.rules.specs.Step.{Step, issue, commit, neither, step_code, after}
use Rattle.rules.specs.Womm.{womm}
use Rattle.rules.proofs.Accepted.{CanCommit, can_commit, after_issue, after_commit, neither_no}
use Rattle.rules.proofs.Actions.{waits-none, issued_old, issued_count, committed_other, committed_count, committed_keeps}
use Rattle.rules.proofs.Sources.{Unset, unset_step}
use Rattle.rules.proofs.Strict.{Done}
use Rattle.progress.proofs.Rooted.{bare}

pub record Kept (s z : State) : Type 0 where
  pub more : s.count ≤ z.count
  pub same : (k : ℕ) → k < s.count → bare (z.actions k) ≡ bare (s.actions k)
  pub done : (k : ℕ) → Done s k → (z.actions k).result ≡ (s.actions k).result

pub kept_issue : (c : Case) (s : State) (p : ℕ) → Unset s → Kept s (issued c s p)
kept_issue c s p u =
    record {
      more = omega (arith, issued_count c s p);
      same = λ k h. ap bare (issued_old c s p k (λ e. omega arith));
      done = λ k d. ap (λ (a : Action). a.result) (issued_old c s p k (λ e. false≢true (sym d ∙ ap is_none (u k (omega arith)))));
    }

pub kept_commit : (c : Case) (s : State) (p k e : ℕ) → CanCommit c s p k e → Kept s (committed c s p k e)
kept_commit c s p k e T =
    record {
      more = omega (arith, committed_count c s p k e);
      same = λ j h. committed_keeps c s p k e bare refl j;
      done = λ j d. ap (λ (a : Action). a.result) (committed_other c s p k e j (λ q. false≢true (sym d ∙ ap (λ (i : ℕ). is_none (s.actions i).result) q ∙ ap is_none (waits-none p (s.actions k) T.waits))));
    }

kept_step : (c : Case) (s : State) (t : Step) → step_code c s t ≡ 0 → Unset s → Kept s (after c s t)
kept_step c s (issue p) h u = rw (after_issue c s p) (kept_issue c s p u)
kept_step c s (commit p k e) h u = rw (after_commit c s p k e) (kept_commit c s p k e (can_commit c s p k e h))
kept_step c s neither h u = absurd (neither_no c s h)

kept_on : (a b d : State) → Kept a b → Kept b d → Kept a d
kept_on a b d g h =
    record {
      more = omega (arith, g.more, h.more);
      same = λ k l. h.same k (omega (arith, g.more)) ∙ g.same k l;
      done = λ k q. h.done k (ap is_none (g.done k q) ∙ q) ∙ g.done k q;
    }

pub kept : (c : Case) {s e : State} {ts : List Step} → Walk (womm c) s ts e → Unset s → Kept s e
kept c {s} (stop h) u = subst (Kept s) h (record { more = omega arith; same = λ k l. refl; done = λ k d. refl })
kept c {s} {e} (go {t = t} h w) u = kept_on s (after c s t) e (kept_step c s t h u) (kept c w (unset_step c s t h u))

-- a value stays
module _ (s z : State) (g : Kept s z) where
  pub value-kept : (x : Name) → is_none (value_of s x) ≡ false → value_of z x ≡ value_of s x
  value-kept (start v) h = refl
  value-kept (given k) h = g.done k h

  -- where all of the names have one
  pub values_kept : (l : List Name) (n : ℕ) → any (λ x. is_none (value_of s x)) l ≡ false → value_of z (get_or l n (start none)) ≡ value_of s (get_or l n (start none))
  values_kept [] n h = refl
  values_kept (x ∷ xs) zero h = value-kept x (or_none (is_none (value_of s x)) _ h).0
  values_kept (x ∷ xs) (suc n) h = values_kept xs n (or_none (is_none (value_of s x)) _ h).1

  pub ready_kept : (l : List Name) → any (λ x. is_none (value_of s x)) l ≡ false → any (λ x. is_none (value_of z x)) l ≡ false
  ready_kept [] h = refl
  ready_kept (x ∷ xs) h =
      let w = or_none (is_none (value_of s x)) (any (λ y. is_none (value_of s y)) xs) h in
      or_false (is_none (value_of z x)) (any (λ y. is_none (value_of z y)) xs) (ap is_none (value-kept x w.0) ∙ w.0) (ready_kept xs w.1)

  -- the inputs of an action that had them
  module _ (k : ℕ) (l : k < s.count) (r : any (λ x. is_none (value_of s x)) (s.actions k).inputs ≡ false) where
    names-kept : (z.actions k).inputs ≡ (s.actions k).inputs
    names-kept = ap (λ (a : Action). a.inputs) (g.same k l)

    pub inputs_kept : (n : ℕ) → input_of z (z.actions k) n ≡ input_of s (s.actions k) n
    inputs_kept n = ap (λ (i : List Name). or_zero (value_of z (get_or i n (start none)))) names-kept ∙ ap or_zero (values_kept (s.actions k).inputs n r)

    pub ready_then : any (λ x. is_none (value_of z x)) (z.actions k).inputs ≡ false
    ready_then = ap (λ (i : List Name). any (λ x. is_none (value_of z x)) i) names-kept ∙ ready_kept (s.actions k).inputs r
