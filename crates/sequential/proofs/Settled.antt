-- Once an action is committed, what stands before it does not change. Assumes nothing.
use mathlib.Core.Path.{◌≡◌, refl, sym, ◌∙◌, ap}
use mathlib.Core.Logic.{◌⊎◌, inl, inr, ⊎_elim}
use mathlib.Core.Bool.{true, false, ◌&&◌, false≢true}
use mathlib.Core.List.{List}
use Prim.Native.Nat.{ℕ, ◌+◌, ◌<◌}
use native.Mathlib.Omega.{arith}
use lib.Dec.{ltb}
use Rattle.words.specs.Small.{is_none}
use Rattle.words.proofs.Bools.{decide, and_both}
use Rattle.cases.specs.declared.Case.{Case}
use Rattle.runs.proofs.Walk.{Walk, stop, go}
use Rattle.rules.specs.Kinds.{acquiring}
use Rattle.rules.specs.State.{State, kind_of, stands_at}
use Rattle.rules.specs.Issue.{new_action, earlier, issued}
use Rattle.rules.specs.Commit.{input, released, committed}
use Rattle.rules.specs.Step.{Step, issue, commit, neither, step_code, after}
use Rattle.rules.specs.Womm.{womm}
use Rattle.rules.proofs.Closed.{UpTo}
use Rattle.rules.proofs.Orders.{joined_if_old}
use Rattle.rules.proofs.Accepted.{CanCommit, can_commit, after_issue, after_commit, neither_no}
use Rattle.rules.proofs.Actions.{either, waits-none}
use Rattle.rules.proofs.Strict.{owner, Done, Freed, Strict}
use Rattle.sequential.proofs.Kept.{kept}
use Rattle.oneorder.proofs.Items.{joined_if_ways}
use Rattle.sequential.proofs.Items.{stands_has}
use Rattle.sequential.proofs.Steady.{Steady, steady_step}

-- an action that a committed release of its processor came after is committed
pub freed_done : (s : State) → Strict s → (j : ℕ) → Freed s j → Done s j
freed_done s v j f = either j f.at (λ q. ap (λ (i : ℕ). is_none (s.actions i).result) q ∙ f.done) (λ n. v.closed j f.at (omega (arith, f.late)) f.low (sym f.own) f.frees f.done)

-- what stands before an action is an earlier one of its processor, or one that a committed release came after
pub before_cases : (s : State) → Strict s → (l j k : ℕ) → s.orders l (8 + j) (8 + k) ≡ true → ((owner s j ≡ owner s k) × (j < k)) ⊎ ((owner s j ≡ owner s k → ⊥) × Freed s j)
before_cases s v l j k h =
    let r = v.edges l (8 + j) (8 + k) h in
    let y = r.before j refl in
    let to : r.to ≡ k = omega (arith, r.is_to) in
    either (owner s j) (owner s k) (λ q. inl (q, omega (arith, y.mine (q ∙ ap (owner s) (sym to))))) (λ n. inr (n, y.other (λ q. n (q ∙ ap (owner s) to))))

module _ (c : Case) (s : State) (S : Steady s) (y : ℕ) (low : y < s.count) (d : Done s y) (l a : ℕ) where
  before_issue : (p : ℕ) → (issued c s p).orders l a (8 + y) ≡ true → s.orders l a (8 + y) ≡ true
  unfolding issued
  before_issue p h = sym (joined_if_old (ltb l c.locs && stands_at l (new_action c s p)) (s.orders l) (8 + s.count) (8 + s.count) (earlier c s p l) a (8 + y) none_yet (λ q. omega arith)) ∙ h
    where
      none_yet : s.orders l (8 + s.count) (8 + y) ≡ false
      none_yet = ⊎_elim (λ q. absurd (omega (arith, ((S.items.stands l (8 + s.count) (8 + y) q).0 s.count refl).0))) (λ q. q) (decide (s.orders l (8 + s.count) (8 + y)))

  before_commit : (p k e : ℕ) → CanCommit c s p k e → (committed c s p k e).orders l a (8 + y) ≡ true → s.orders l a (8 + y) ≡ true
  unfolding committed
  before_commit p k e T h =
      ⊎_elim (λ q. q) (λ q. absurd (over (and_both (ltb l c.locs) (acquiring (kind_of (s.actions k))) q.0).1 q.1.down))
      (joined_if_ways (ltb l c.locs && acquiring (kind_of (s.actions k))) (s.orders l) (8 + k) (8 + s.count) (released c s p k e (input c s p k e 0)) a (8 + y) h)
    where
      queued : is_none (s.actions k).result ≡ true
      queued = ap is_none (waits-none p (s.actions k) T.waits)

      over : acquiring (kind_of (s.actions k)) ≡ true → UpTo (s.orders l) (8 + k) (8 + y) → ⊥
      over q (inl e) = let same : k ≡ y = omega arith in false≢true (sym d ∙ ap (λ (i : ℕ). is_none (s.actions i).result) (sym same) ∙ queued)
      over q (inr e) =
          ⊎_elim
          (λ w. false≢true (sym (S.items.waits k y w.1 low w.0 q (stands_has l (s.actions y) ((S.items.stands l (8 + k) (8 + y) e).1 y refl).1) d) ∙ queued))
          (λ w. false≢true (sym (freed_done s S.strict k w.1) ∙ queued))
          (before_cases s S.strict l k y e)

  before_step : (t : Step) → step_code c s t ≡ 0 → (after c s t).orders l a (8 + y) ≡ true → s.orders l a (8 + y) ≡ true
  before_step (issue p) h q = before_issue p (ap (λ (z : State). z.orders l a (8 + y)) (sym (after_issue c s p)) ∙ q)
  before_step (commit p k e) h q = before_commit p k e (can_commit c s p k e h) (ap (λ (z : State). z.orders l a (8 + y)) (sym (after_commit c s p k e)) ∙ q)
  before_step neither h q = absurd (neither_no c s h)

-- SETTLED
pub settled : (c : Case) {s f : State} {ts : List Step} → Walk (womm c) s ts f → Steady s → (y : ℕ) → y < s.count → Done s y → (l a : ℕ) → f.orders l a (8 + y) ≡ true → s.orders l a (8 + y) ≡ true
settled c {s} (stop h) S y low d l a q = ap (λ (z : State). z.orders l a (8 + y)) h ∙ q
settled c {s} {f} (go {t = t} h w) S y low d l a q =
    let g = kept c (go {t = t} h (stop refl)) S.unset in
    before_step c s S y low d l a t h (settled c w (steady_step c s t h S) y (omega (arith, g.more)) (ap is_none (g.done y d) ∙ d) l a q)
