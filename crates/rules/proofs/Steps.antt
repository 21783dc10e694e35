-- An accepted schedule has a step for each action issued and one for each committed: at most 96. Assumes nothing.
use Rattle.std.proofs.Common.{◌≡◌, ℕ, zero, suc, ◌+◌, ◌<◌, ◌≤◌, true, false, List, length, sym, refl, ap, ◌∙◌, arith, leb-false}
use mathlib.Core.Bool.{false≢true}
use mathlib.Core.Option.{Option, none, some}
use Rattle.words.specs.Small.{is_none, put}
use Rattle.words.proofs.Bools.{put_same, put_other}
use Rattle.cases.specs.declared.Case.{Case}
use Rattle.runs.specs.Outcome.{Leads, Outcome, Cut}
use Rattle.runs.proofs.Always.{counted-after}
use Rattle.rules.specs.State.{State, Action, initial}
use Rattle.rules.specs.Issue.{new_action, issued}
use Rattle.rules.specs.Commit.{settled, committed}
use Rattle.rules.specs.Step.{Step, step_code, after}
use Rattle.rules.specs.Womm.{womm}
use Rattle.rules.proofs.Accepted.{CanIssue, CanCommit}
use Rattle.rules.proofs.Actions.{either, by_step, waits-none}

-- the steps that an action took so far
abbrev took : Option ℕ → ℕ
took none = 1
took (some v) = 2

-- the steps that the first n actions took
pub spent : (ℕ → Action) → ℕ → ℕ
spent A zero = 0
spent A (suc n) = took (A n).result + spent A n

spent_same : (A B : ℕ → Action) (n : ℕ) → ((k : ℕ) → k < n → A k ≡ B k) → spent A n ≡ spent B n
unfolding spent
spent_same A B zero h = refl
spent_same A B (suc n) h = omega (arith, spent_same A B n (λ k l. h k (omega arith)), ap (λ (a : Action). took a.result) (h n (omega arith)))

spent_put : (A : ℕ → Action) (n k : ℕ) (a : Action) (v : ℕ) → k < n → (A k).result ≡ none → a.result ≡ some v → spent (put A k a) n ≡ spent A n + 1
unfolding spent
spent_put A zero k a v h g e = absurd (omega arith)
spent_put A (suc n) k a v h g e =
    either k n
    (λ i.
    omega (
      arith,
      spent_same (put A k a) A n (λ j l. put_other A k j a (λ x. omega arith)),
      ap (λ (b : Action). took b.result) (put_same A k n a (sym i)),
      ap took e,
      ap (λ (j : ℕ). took (A j).result) i,
      ap took g,
    ))
    (λ d. omega (arith, spent_put A n k a v (omega arith) g e, ap (λ (b : Action). took b.result) (put_other A k n a (λ x. d (sym x)))))

took_most : (o : Option ℕ) → took o ≤ 2
took_most none = omega arith
took_most (some v) = omega arith

-- at most two each
pub spent_most : (A : ℕ → Action) (n : ℕ) → spent A n ≤ n + n
unfolding spent
spent_most A zero = omega arith
spent_most A (suc n) = omega (arith, spent_most A n, took_most (A n).result)

-- two each where all are committed
pub spent_all : (A : ℕ → Action) (n : ℕ) → ((k : ℕ) → k < n → is_none (A k).result ≡ false) → spent A n ≡ n + n
unfolding spent
spent_all A zero h = refl
spent_all A (suc n) h = omega (arith, two (A n).result (h n (omega arith)), spent_all A n (λ k l. h k (omega arith)))
  where
    two : (o : Option ℕ) → is_none o ≡ false → took o ≡ 2
    two none q = absurd (false≢true (sym q))
    two (some v) q = refl

-- fewer where one waits
pub spent_less : (A : ℕ → Action) (n k : ℕ) → k < n → is_none (A k).result ≡ true → spent A n < n + n
unfolding spent
spent_less A zero k h w = absurd (omega arith)
spent_less A (suc n) k h w =
    either k n (λ e. omega (arith, spent_most A n, one (A n).result (ap (λ (j : ℕ). is_none (A j).result) (sym e) ∙ w)))
    (λ d. omega (arith, spent_less A n k (omega (arith, h, d)) w, took_most (A n).result))
  where
    one : (o : Option ℕ) → is_none o ≡ true → took o ≡ 1
    one none q = refl
    one (some v) q = absurd (false≢true q)

-- after n steps
pub record Spent (n : ℕ) (s : State) : Type 0 where
  pub few : s.count ≤ 48
  pub steps : spent s.actions s.count ≡ n

spent_issue : (c : Case) (n : ℕ) (s : State) (p : ℕ) → CanIssue c s p → Spent n s → Spent (suc n) (issued c s p)
unfolding issued spent
spent_issue c n s p I h =
    let a = new_action c s p in
    record {
      few = omega (arith, leb-false 48 s.count I.room);
      steps =
          omega (
            arith,
            h.steps,
            spent_same (put s.actions s.count a) s.actions s.count (λ j l. put_other s.actions s.count j a (λ x. omega arith)),
            ap (λ (a : Action). took a.result) (put_same s.actions s.count s.count a refl),
          );
    }

spent_commit : (c : Case) (n : ℕ) (s : State) (p k e : ℕ) → CanCommit c s p k e → Spent n s → Spent (suc n) (committed c s p k e)
unfolding committed
spent_commit c n s p k e T h =
    record {
      few = h.few;
      steps = omega (arith, h.steps, spent_put s.actions s.count k (settled c s p k e) _ T.there (waits-none p (s.actions k) T.waits) refl);
    }

pub spent_initial : (c : Case) → Spent 0 (initial c)
unfolding spent
spent_initial c = record { few = omega arith; steps = refl }

pub spent_step : (c : Case) (n : ℕ) (s : State) (t : Step) → step_code c s t ≡ 0 → Spent n s → Spent (suc n) (after c s t)
spent_step c = by_step c Spent (spent_issue c) (spent_commit c)

-- 'At most 96 steps in a schedule'
pub at_most_96 : (c : Case) (ts : List Step) (e : State) → Leads (womm c) (initial c) ts e → length ts ≤ 96
at_most_96 c ts e l =
    let r = counted-after (womm c) Spent (spent_step c) (spent_initial c) ts e l in
    omega (arith, r.few, r.steps, spent_most e.actions e.count)

-- so no outcome needs a larger bound, and no larger bound is cut
pub outcome_within_96 : (c : Case) (n : ℕ) (r : List ℕ) → Outcome (womm c) n r → Outcome (womm c) 96 r
outcome_within_96 c n r o = record { schedule = o.schedule; end = o.end; short = at_most_96 c o.schedule o.end o.leads; leads = o.leads; done = o.done; gives = o.gives }

pub uncut_over_96 : (c : Case) (n : ℕ) → 96 < n → Cut (womm c) n → ⊥
uncut_over_96 c n h k = omega (arith, at_most_96 c k.schedule k.end k.leads, k.exact)
