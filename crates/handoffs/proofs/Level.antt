-- A finished run of two straight programs issues each instruction once and commits it once. Assumes nothing.
use mathlib.Core.Path.{◌≡◌, refl, sym, ◌∙◌, ap, subst}
use mathlib.Core.Logic.{◌⊎◌, inl, inr, ⊎_elim}
use mathlib.Core.Bool.{true, false, not, ◌&&◌, false≢true}
use mathlib.Core.List.{List}
use mathlib.Core.Option.{Option, none, some}
use Prim.Native.Nat.{ℕ, zero, suc, ◌+◌, ◌*◌, ◌≤◌, ◌<◌}
use native.Mathlib.Omega.{arith}
use lib.Dec.{eqb}
use lib.ListN.{length}
use borrow.Author.Tests.{eq-eqb, leb-false}
use Rattle.words.specs.Small.{is_none, or_zero, is, all, counting, put, some_below}
use Rattle.words.proofs.Bools.{decide, and_both, and_make, put_same, put_other, below_cases, below_make, cond-false}
use Rattle.cases.specs.declared.Case.{Case}
use Rattle.cases.specs.declared.Instr.{Instr}
use Rattle.cases.specs.Case.{count_of, instr_at}
use Rattle.runs.specs.Outcome.{Leads, Cut}
use Rattle.runs.proofs.Always.{counted-after}
use Rattle.rules.specs.Kinds.{kind, branching}
use Rattle.rules.specs.State.{State, Action, initial, kind_of, waiting}
use Rattle.rules.specs.Issue.{place_after, here, next, new_action, issued}
use Rattle.rules.specs.Commit.{committed, branched_to}
use Rattle.rules.specs.Step.{Step, step_code, after}
use Rattle.rules.specs.Result.{finished}
use Rattle.rules.specs.Womm.{womm}
use Rattle.rules.proofs.Accepted.{CanIssue, CanCommit, still}
use Rattle.rules.proofs.Actions.{either, by_step, issued_old, issued_new, issued_count, committed_keeps, committed_count}
use Rattle.rules.proofs.Steps.{Spent, spent_initial, spent_step, spent_most, spent_all, spent_less}

-- neither a branch nor a goto
pub record Plain (i : Instr) : Type 0 where
  pub unbranched : branching (kind i) ≡ false
  pub onward : (j : ℕ) → place_after i j ≡ some (suc j)

-- two processors, and every instruction is plain
pub record Straight (c : Case) : Type 0 where
  pub two : c.procs ≡ 2
  pub plain : (p i : ℕ) → Plain (instr_at c p i)

-- the places add up to the actions issued, which are all plain
record Even (c : Case) (s : State) : Type 0 where
  pub sum : or_zero (s.places 0) + or_zero (s.places 1) ≡ s.count
  pub some0 : is_none (s.places 0) ≡ false
  pub some1 : is_none (s.places 1) ≡ false
  pub acts : (k : ℕ) → k < s.count → Plain (s.actions k).instr
  pub procs : (k : ℕ) → k < s.count → (s.actions k).proc < 2
  pub low0 : or_zero (s.places 0) ≤ count_of c 0
  pub low1 : or_zero (s.places 1) ≤ count_of c 1

even_initial : (c : Case) → Even c (initial c)
even_initial c = record { sum = refl; some0 = refl; some1 = refl; acts = λ k h. absurd (omega arith); procs = λ k h. absurd (omega arith); low0 = omega arith; low1 = omega arith }

below_two : (p : ℕ) → p < 2 → (p ≡ 0) ⊎ (p ≡ 1)
below_two zero h = inl refl
below_two (suc zero) h = inr refl
below_two (suc (suc p)) h = absurd (omega arith)

module _ (c : Case) (S : Straight c) where
  module _ (s : State) (p : ℕ) (I : CanIssue c s p) (E : Even c s) where
    -- the places after the issue
    place_same : (q : ℕ) → q ≡ p → (issued c s p).places q ≡ some (suc (here c s p))
    unfolding issued
    place_same q e = put_same s.places p q (place_after (next c s p) (here c s p)) e ∙ (S.plain p (here c s p)).onward (here c s p)

    place_other : (q : ℕ) → (q ≡ p → ⊥) → (issued c s p).places q ≡ s.places q
    unfolding issued
    place_other q e = put_other s.places p q (place_after (next c s p) (here c s p)) e

    new_acts : (P : Action → Type 0) → P (new_action c s p) → ((k : ℕ) → k < s.count → P (s.actions k)) → (k : ℕ) → k < (issued c s p).count → P ((issued c s p).actions k)
    new_acts P new old k h =
        either k s.count (λ e. subst (λ (j : ℕ). P ((issued c s p).actions j)) (sym e) (subst P (sym (issued_new c s p)) new))
        (λ d. subst P (sym (issued_old c s p k d)) (old k (omega (arith, issued_count c s p, h))))

    by_first : p ≡ 0 → Even c (issued c s p)
    by_first e =
        let a = place_same 0 (sym e) in
        let b = place_other 1 (λ x. omega (arith, e, x)) in
        let h : here c s p ≡ or_zero (s.places 0) = ap (λ (q : ℕ). or_zero (s.places q)) e in
        record {
          sum = omega (arith, E.sum, issued_count c s p, h, ap or_zero a, ap or_zero b);
          some0 = ap is_none a;
          some1 = ap is_none b ∙ E.some1;
          acts = new_acts (λ (x : Action). Plain x.instr) (S.plain p (here c s p)) E.acts;
          procs = new_acts (λ (x : Action). x.proc < 2) (omega (arith, e)) E.procs;
          low0 = omega (arith, h, ap or_zero a, leb-false (count_of c p) (here c s p) I.inside, ap (count_of c) e);
          low1 = omega (arith, ap or_zero b, E.low1);
        }

    by_second : p ≡ 1 → Even c (issued c s p)
    by_second e =
        let a = place_same 1 (sym e) in
        let b = place_other 0 (λ x. omega (arith, e, x)) in
        let h : here c s p ≡ or_zero (s.places 1) = ap (λ (q : ℕ). or_zero (s.places q)) e in
        record {
          sum = omega (arith, E.sum, issued_count c s p, h, ap or_zero a, ap or_zero b);
          some0 = ap is_none b ∙ E.some0;
          some1 = ap is_none a;
          acts = new_acts (λ (x : Action). Plain x.instr) (S.plain p (here c s p)) E.acts;
          procs = new_acts (λ (x : Action). x.proc < 2) (omega (arith, e)) E.procs;
          low0 = omega (arith, ap or_zero b, E.low0);
          low1 = omega (arith, h, ap or_zero a, leb-false (count_of c p) (here c s p) I.inside, ap (count_of c) e);
        }

    even_issue : Even c (issued c s p)
    even_issue = ⊎_elim by_first by_second (below_two p (omega (arith, I.proc, S.two)))

  module _ (s : State) (p k e : ℕ) (T : CanCommit c s p k e) (E : Even c s) where
    places-kept : (committed c s p k e).places ≡ s.places
    unfolding committed
    places-kept = cond-false (branching (kind_of (s.actions k))) (put s.places p (some (branched_to c s p k e))) s.places (E.acts k T.there).unbranched

    even_commit : Even c (committed c s p k e)
    even_commit =
        let a = ap (λ (f : ℕ → Option ℕ). f 0) places-kept in
        let b = ap (λ (f : ℕ → Option ℕ). f 1) places-kept in
        record {
          sum = omega (arith, E.sum, committed_count c s p k e, ap or_zero a, ap or_zero b);
          some0 = ap is_none a ∙ E.some0;
          some1 = ap is_none b ∙ E.some1;
          acts = λ j h. subst Plain (sym (committed_keeps c s p k e (λ (x : Action). x.instr) refl j)) (E.acts j (omega (arith, committed_count c s p k e, h)));
          procs = λ j h. omega (arith, committed_keeps c s p k e (λ (x : Action). x.proc) refl j, E.procs j (omega (arith, committed_count c s p k e, h)));
          low0 = omega (arith, ap or_zero a, E.low0);
          low1 = omega (arith, ap or_zero b, E.low1);
        }

  even_step : (n : ℕ) (s : State) (t : Step) → step_code c s t ≡ 0 → Even c s → Even c (after c s t)
  even_step = by_step c (λ n s. Even c s) (λ n s p I E. even_issue s p I E) (λ n s p k e T E. even_commit s p k e T E)

  -- EXACTLY TWO STEPS AN INSTRUCTION
  pub finished_exact : (ts : List Step) (e : State) → Leads (womm c) (initial c) ts e → finished c e ≡ true → length ts ≡ 2 * (count_of c 0 + count_of c 1)
  finished_exact ts e l f =
      let E = counted-after (womm c) (λ n s. Even c s) even_step (even_initial c) ts e l in
      let N = counted-after (womm c) Spent (spent_step c) (spent_initial c) ts e l in
      let p0 = still c e f 0 (omega (arith, S.two)) in
      let p1 = still c e f 1 (omega (arith, S.two)) in
      omega (arith, N.steps, spent_all e.actions e.count (settles E p0 p1), E.sum, p0.1, p1.1)
    where
      settles : Even c e → (some_below e.count (λ k. waiting 0 (e.actions k)) ≡ false) × (or_zero (e.places 0) ≡ count_of c 0) → (some_below e.count (λ k. waiting 1 (e.actions k)) ≡ false) × (or_zero (e.places 1) ≡ count_of c 1)
          → (k : ℕ) → k < e.count → is_none (e.actions k).result ≡ false
      settles E p0 p1 k h = ⊎_elim (λ w. absurd (waits w)) (λ w. w) (decide (is_none (e.actions k).result))
        where
          at : (p : ℕ) → some_below e.count (λ k. waiting p (e.actions k)) ≡ false → (e.actions k).proc ≡ p → is_none (e.actions k).result ≡ true → ⊥
          at p nay q w = false≢true (sym nay ∙ below_make e.count (λ k. waiting p (e.actions k)) k h (and_make _ _ (eq-eqb (e.actions k).proc p q) w))

          waits : is_none (e.actions k).result ≡ true → ⊥
          waits w = ⊎_elim (λ q. at 0 p0.0 q w) (λ q. at 1 p1.0 q w) (below_two (e.actions k).proc (E.procs k h))

  -- NOTHING IS CUT: a run of so many steps has issued and committed everything

  is_at : (n : ℕ) (o : Option ℕ) → is_none o ≡ false → or_zero o ≡ n → is n o ≡ true
  is_at n none h e = absurd (false≢true (sym h))
  is_at n (some m) h e = eq-eqb m n e

  ends : (e : State) → (p : ℕ) → ((k : ℕ) → k < e.count → is_none (e.actions k).result ≡ true → ⊥) → is (count_of c p) (e.places p) ≡ true
      → (not (some_below e.count (λ k. waiting p (e.actions k))) && is (count_of c p) (e.places p)) ≡ true
  ends e p all_done at = and_make _ _ (ap not (⊎_elim (λ h. absurd (waits (below_cases e.count (λ k. waiting p (e.actions k)) h))) (λ h. h) (decide (some_below e.count (λ k. waiting p (e.actions k)))))) at
    where
      waits : (k : ℕ) × (k < e.count) × (waiting p (e.actions k) ≡ true) → ⊥
      waits w = all_done w.0 w.1 (and_both (eqb (e.actions w.0).proc p) (is_none (e.actions w.0).result) w.2).1

  ended : (e : State) → ((p : ℕ) → p < 2 → (not (some_below e.count (λ k. waiting p (e.actions k))) && is (count_of c p) (e.places p)) ≡ true) → finished c e ≡ true
  unfolding finished
  ended e h =
      ap (λ (n : ℕ). all (λ p. not (some_below e.count (λ k. waiting p (e.actions k))) && is (count_of c p) (e.places p)) (counting 0 n)) S.two
      ∙ and_make _ _ (h 0 (omega arith)) (and_make _ _ (h 1 (omega arith)) refl)

  pub uncut : Cut (womm c) (2 * (count_of c 0 + count_of c 1)) → ⊥
  uncut k =
      let e = k.end in
      let E = counted-after (womm c) (λ n s. Even c s) even_step (even_initial c) k.schedule e k.leads in
      let N = counted-after (womm c) Spent (spent_step c) (spent_initial c) k.schedule e k.leads in
      let most = spent_most e.actions e.count in
      let all_done : (j : ℕ) → j < e.count → is_none (e.actions j).result ≡ true → ⊥ = λ j h w. omega (arith, N.steps, k.exact, E.sum, E.low0, E.low1, spent_less e.actions e.count j h w) in
      let at0 : or_zero (e.places 0) ≡ count_of c 0 = omega (arith, N.steps, k.exact, E.sum, E.low0, E.low1, most) in
      let at1 : or_zero (e.places 1) ≡ count_of c 1 = omega (arith, N.steps, k.exact, E.sum, E.low0, E.low1, most) in
      let each : (p : ℕ) → p < 2 → (not (some_below e.count (λ j. waiting p (e.actions j))) && is (count_of c p) (e.places p)) ≡ true =
      λ p h.
      ⊎_elim
      (λ q. subst (λ (p : ℕ). (not (some_below e.count (λ j. waiting p (e.actions j))) && is (count_of c p) (e.places p)) ≡ true) (sym q) (ends e 0 all_done (is_at (count_of c 0) (e.places 0) E.some0 at0)))
      (λ q. subst (λ (p : ℕ). (not (some_below e.count (λ j. waiting p (e.actions j))) && is (count_of c p) (e.places p)) ≡ true) (sym q) (ends e 1 all_done (is_at (count_of c 1) (e.places 1) E.some1 at1)))
      (below_two p h) in
      false≢true (sym k.undone ∙ ended e each)
