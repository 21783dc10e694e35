-- What every accepted step keeps: the actions that are issued, but for their results; the results; the order. Assumes nothing.
use mathlib.Core.Path.{◌≡◌, refl, sym, ◌∙◌, ap, subst}
use mathlib.Core.Bool.{true, false, false≢true}
use mathlib.Core.List.{List}
use Prim.Native.Nat.{ℕ, ◌≤◌, ◌<◌}
use native.Mathlib.Omega.{arith}
use Rattle.words.specs.Small.{is_none}
use Rattle.cases.specs.declared.Case.{Case}
use Rattle.runs.proofs.Walk.{Walk, stop, go}
use Rattle.rules.specs.State.{Action}
use Rattle.rules.specs.Step.{Step, issue, commit, neither, step_code}
use Rattle.rules.proofs.Closed.{joined_if_keeps}
use Rattle.rules.proofs.Accepted.{CanCommit, can_commit, neither_no}
use Rattle.rules.proofs.Actions.{waits-none, issued_count, committed_other, committed_count, committed_keeps}
use Rattle.progress.proofs.Rooted.{bare}
use Rattle.oneorder.specs.OneOrder.{OneState, view, issued_one, committed_one, after_one, womm_one}
use Rattle.oneorder.proofs.Items.{issued_kept}

pub record Grows (s z : OneState) : Type 0 where
  pub more : s.count ≤ z.count
  pub same : (k : ℕ) → k < s.count → bare (z.actions k) ≡ bare (s.actions k)
  pub done : (k : ℕ) → k < s.count → is_none (s.actions k).result ≡ false → (z.actions k).result ≡ (s.actions k).result
  pub order : (a b : ℕ) → s.order a b ≡ true → z.order a b ≡ true

grows_issue : (c : Case) (s : OneState) (p : ℕ) → Grows s (issued_one c s p)
unfolding issued_one
grows_issue c s p =
    record {
      more = omega (arith, issued_count c (view c s) p);
      same = λ k h. ap bare (issued_kept c (view c s) p k h);
      done = λ k h d. ap (λ (a : Action). a.result) (issued_kept c (view c s) p k h);
      order = λ a b h. joined_if_keeps _ _ _ _ _ a b h;
    }

pub grows_commit : (c : Case) (s : OneState) (p k e : ℕ) → CanCommit c (view c s) p k e → Grows s (committed_one c s p k e)
unfolding committed_one
grows_commit c s p k e T =
    record {
      more = omega (arith, committed_count c (view c s) p k e);
      same = λ j h. committed_keeps c (view c s) p k e bare refl j;
      done = λ j h d. ap (λ (a : Action). a.result) (committed_other c (view c s) p k e j (λ q. false≢true (sym d ∙ ap (λ (i : ℕ). is_none (s.actions i).result) q ∙ ap is_none (waits-none p (s.actions k) T.waits))));
      order = λ a b h. joined_if_keeps _ _ _ _ _ a b h;
    }

pub grows_step : (c : Case) (s : OneState) (t : Step) → step_code c (view c s) t ≡ 0 → Grows s (after_one c s t)
unfolding after_one
grows_step c s (issue p) h = grows_issue c s p
grows_step c s (commit p k e) h = grows_commit c s p k e (can_commit c (view c s) p k e h)
grows_step c s neither h = absurd (neither_no c (view c s) h)

grows_on : (a b d : OneState) → Grows a b → Grows b d → Grows a d
grows_on a b d g h =
    record {
      more = omega (arith, g.more, h.more);
      same = λ k l. h.same k (omega (arith, g.more)) ∙ g.same k l;
      done = λ k l q. h.done k (omega (arith, g.more)) (ap is_none (g.done k l q) ∙ q) ∙ g.done k l q;
      order = λ x y e. h.order x y (g.order x y e);
    }

pub grows : (c : Case) {s e : OneState} {ts : List Step} → Walk (womm_one c) s ts e → Grows s e
grows c {s} (stop h) = subst (Grows s) h (record { more = omega arith; same = λ k l. refl; done = λ k l d. refl; order = λ a b e. e })
grows c {s} {e} (go {t = t} h w) = grows_on s (after_one c s t) e (grows_step c s t h) (grows c w)
