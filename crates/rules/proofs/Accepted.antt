-- An accepted step, test by test; a finished state takes none. Assumes nothing.
use Rattle.std.proofs.Common.{◌≡◌, ℕ, zero, suc, ◌+◌, ◌<◌, ◌≤◌, Bool, true, false, not, ◌&&◌, eqb, ltb, leb, ◌⊎◌, ◌∷◌, sym, refl, ap, ◌∙◌, subst, ⊎_elim, arith, ltb-true, lt-ltb, eqb-true, leb-false}
use mathlib.Core.Bool.{false≢true}
use mathlib.Core.List.{Memᴰ}
use mathlib.Core.Option.{Option, none, some}
use borrow.Author.Tests.{lt-leb, eqb-false, not-true, not-false}
use Rattle.words.specs.Small.{is_none, or_zero, is, any, counting, some_below}
use Rattle.words.specs.Refusals.{◌when◌}
use Rattle.words.proofs.Bools.{decide, and_both, and_make, all_at, below_make}
use Rattle.words.proofs.Passed.{Passed, passed, unpassed}
use Rattle.cases.specs.declared.Case.{Case}
use Rattle.cases.specs.Case.{count_of}
use Rattle.rules.specs.Kinds.{kind, reading, accesses, syncs}
use Rattle.rules.specs.State.{State, kind_of, waiting, value_of, item_value}
use Rattle.rules.specs.Issue.{here, next, address, issue_refusals, issued}
use Rattle.rules.specs.Commit.{writes, visible, barred, input, held_back, commit_refusals, committed}
use Rattle.rules.specs.Step.{Step, issue, commit, neither, step_code, after}
use Rattle.rules.specs.Result.{finished}

pub record CanIssue (c : Case) (s : State) (p : ℕ) : Type 0 where
  pub proc : p < c.procs
  pub place : is_none (s.places p) ≡ false
  pub inside : leb (count_of c p) (here c s p) ≡ false
  pub room : leb 48 s.count ≡ false
  pub known : (accesses (kind (next c s p)) && is_none (address c s p)) ≡ false
  pub low : (accesses (kind (next c s p)) && leb c.locs (or_zero (address c s p))) ≡ false

pub record CanCommit (c : Case) (s : State) (p k e : ℕ) : Type 0 where
  pub proc : p < c.procs
  pub there : k < s.count
  pub waits : waiting p (s.actions k) ≡ true
  pub plain : (not (eqb e 0) && not (reading (kind_of (s.actions k)))) ≡ false
  pub free : held_back c s p k e ≡ false
  pub ready : any (λ n. is_none (value_of s n)) (s.actions k).inputs ≡ false
  pub low : (syncs (kind_of (s.actions k)) && leb c.locs (input c s p k e 0)) ≡ false
  pub allowed : barred p (kind_of (s.actions k)) (s.holders (input c s p k e 0)) ≡ false
  pub sees : (reading (kind_of (s.actions k)) && not (visible c s (s.actions k).loc (8 + k) e)) ≡ false

module _ (c : Case) (s : State) (p : ℕ) where
  issue_passed : step_code c s (issue p) ≡ 0 → Passed (20 when leb c.procs p ∷ issue_refusals c s p)
  unfolding step_code issue_refusals
  issue_passed h = passed (20 when leb c.procs p ∷ issue_refusals c s p) refl h

  pub can_issue : step_code c s (issue p) ≡ 0 → CanIssue c s p
  unfolding issue_refusals
  can_issue h =
      let q = issue_passed h in
      record {
        proc = leb-false _ _ q.0;
        place = q.1.0;
        inside = q.1.1.0;
        room = q.1.1.1.0;
        known = q.1.1.1.1.0;
        low = q.1.1.1.1.1.0;
      }

  pub issue_ok : CanIssue c s p → step_code c s (issue p) ≡ 0
  unfolding step_code issue_refusals
  issue_ok k = unpassed (20 when leb c.procs p ∷ issue_refusals c s p) (lt-leb _ _ k.proc, (k.place, (k.inside, (k.room, (k.known, (k.low, tt))))))

  pub after_issue : after c s (issue p) ≡ issued c s p
  unfolding after
  after_issue = refl

module _ (c : Case) (s : State) (p k e : ℕ) where
  commit_passed : step_code c s (commit p k e) ≡ 0 → Passed (20 when leb c.procs p ∷ commit_refusals c s p k e)
  unfolding step_code commit_refusals
  commit_passed h = passed (20 when leb c.procs p ∷ commit_refusals c s p k e) refl h

  pub can_commit : step_code c s (commit p k e) ≡ 0 → CanCommit c s p k e
  unfolding commit_refusals
  can_commit h =
      let q = commit_passed h in
      let w = and_both (ltb k s.count) _ (not-false _ q.1.0) in
      record {
        proc = leb-false _ _ q.0;
        there = ltb-true _ _ w.0;
        waits = w.1;
        plain = q.1.1.0;
        free = q.1.1.1.0;
        ready = q.1.1.1.1.0;
        low = q.1.1.1.1.1.0;
        allowed = q.1.1.1.1.1.1.0;
        sees = q.1.1.1.1.1.1.1.0;
      }

  pub commit_ok : CanCommit c s p k e → step_code c s (commit p k e) ≡ 0
  unfolding step_code commit_refusals
  commit_ok q =
      unpassed (20 when leb c.procs p ∷ commit_refusals c s p k e)
      (lt-leb _ _ q.proc, (ap not (and_make _ _ (lt-ltb _ _ q.there) q.waits), (q.plain, (q.free, (q.ready, (q.low, (q.allowed, (q.sees, tt))))))))

  pub after_commit : after c s (commit p k e) ≡ committed c s p k e
  unfolding after
  after_commit = refl

-- what says neither is refused
pub neither_no : (c : Case) (s : State) → step_code c s neither ≡ 0 → ⊥
unfolding step_code
neither_no c s h = omega arith

-- write item w stands after e and before i
abbrev pub between : State → ℕ → ℕ → ℕ → ℕ → Bool
between s l i e w = writes s l w && (s.orders l e w && s.orders l w i)

pub record Visible (c : Case) (s : State) (l i e : ℕ) : Type 0 where
  pub one : writes s l e ≡ true
  pub known : is_none (item_value c s e) ≡ false
  pub newest : some_below (8 + s.count) (between s l i e) ≡ false
  pub before : s.orders l i e ≡ false

module _ (c : Case) (s : State) (l i e : ℕ) where
  pub visible_cases : visible c s l i e ≡ true → Visible c s l i e
  unfolding visible
  visible_cases v =
      let a = and_both (writes s l e && not (is_none (item_value c s e)) && not (some_below (8 + s.count) (between s l i e))) (not (s.orders l i e)) v in
      let b = and_both (writes s l e && not (is_none (item_value c s e))) (not (some_below (8 + s.count) (between s l i e))) a.0 in
      let d = and_both (writes s l e) (not (is_none (item_value c s e))) b.0 in
      record { one = d.0; known = not-true _ d.1; newest = not-true _ b.1; before = not-true _ a.1 }

  pub visible_make : Visible c s l i e → visible c s l i e ≡ true
  unfolding visible
  visible_make v = and_make _ _ (and_make _ _ (and_make _ _ v.one (ap not v.known)) (ap not v.newest)) (ap not v.before)

-- an accepted read sees its source
pub sees_cases : (c : Case) (s : State) (p k e : ℕ) → CanCommit c s p k e → reading (kind_of (s.actions k)) ≡ true → Visible c s (s.actions k).loc (8 + k) e
sees_cases c s p k e h r = visible_cases c s _ _ _ (not-false _ (subst (λ (b : Bool). (b && not (visible c s (s.actions k).loc (8 + k) e)) ≡ false) r h.sees))

pub counting_mem : (n k i : ℕ) → k ≤ i → i < k + n → Memᴰ i (counting k n)
counting_mem zero k i h g = absurd (omega arith)
counting_mem (suc n) k i h g =
    ⊎_elim (λ e. Memᴰ.head (sym (eqb-true k i e))) (λ e. Memᴰ.tail (counting_mem n (suc k) i (omega (arith, eqb-false k i e)) (omega arith))) (decide (eqb k i))

is_or_zero : (n : ℕ) (o : Option ℕ) → is n o ≡ true → or_zero o ≡ n
is_or_zero n none h = absurd (false≢true h)
is_or_zero n (some m) h = eqb-true m n h

module _ (c : Case) (s : State) (f : finished c s ≡ true) where
  pub still : (p : ℕ) → p < c.procs → (some_below s.count (λ k. waiting p (s.actions k)) ≡ false) × (or_zero (s.places p) ≡ count_of c p)
  unfolding finished
  still p h =
      let w = and_both _ _ (all_at (λ q. not (some_below s.count (λ k. waiting q (s.actions k))) && is (count_of c q) (s.places q)) (counting_mem c.procs 0 p (omega arith) (omega arith)) f) in
      (not-true _ w.0, is_or_zero _ (s.places p) w.1)

  -- a finished state accepts no step
  pub finished_still : (t : Step) → step_code c s t ≡ 0 → ⊥
  finished_still (issue p) h = let k = can_issue c s p h in omega (arith, (still p k.proc).1, leb-false (count_of c p) (or_zero (s.places p)) k.inside)
  finished_still (commit p k e) h =
      let q = can_commit c s p k e h in
      false≢true (sym (still p q.proc).0 ∙ below_make s.count (λ k. waiting p (s.actions k)) k q.there q.waits)
  finished_still neither h = neither_no c s h
