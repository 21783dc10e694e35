-- After every accepted schedule each action's processor and location are in range, and its item stands after the initial write. Assumes nothing.
use mathlib.Core.Path.{◌≡◌, refl, sym, ◌∙◌, ap, subst}
use mathlib.Core.Bool.{Bool, true, ◌&&◌}
use mathlib.Core.List.{List}
use mathlib.Core.Option.{none}
use Prim.Native.Nat.{ℕ, ◌+◌, ◌<◌}
use native.Mathlib.Omega.{arith}
use lib.Dec.{eqb, leb, ltb}
use borrow.Author.Tests.{eq-eqb, leb-false, lt-ltb}
use Rattle.words.specs.Small.{or_zero}
use Rattle.words.proofs.Bools.{and_make, cond-true}
use Rattle.cases.specs.declared.Case.{Case}
use Rattle.runs.specs.Outcome.{Leads}
use Rattle.runs.proofs.Always.{always_after}
use Rattle.rules.specs.Kinds.{kind, accesses}
use Rattle.rules.specs.State.{State, Action, initial, kind_of, item_is, stands_at}
use Rattle.rules.specs.Issue.{next, address, new_action, earlier, issued}
use Rattle.rules.specs.Commit.{committed}
use Rattle.rules.specs.Step.{Step}
use Rattle.rules.specs.Womm.{womm}
use Rattle.rules.proofs.Closed.{joined_if_keeps, joined_if_adds}
use Rattle.rules.proofs.Accepted.{CanIssue, CanCommit}
use Rattle.rules.proofs.Actions.{either, by_step, issued_old, issued_new, issued_count, committed_count, committed_keeps}

pub item_initial : (b : Bool) (f : Action → Bool) (s : State) (e : ℕ) → e < 8 → item_is b f s e ≡ b
item_initial b f s e h = cond-true (ltb e 8) b _ (lt-ltb e 8 h)

-- an action but for its result
abbrev pub bare : Action → Action
bare a = record { proc = a.proc; place = a.place; instr = a.instr; inputs = a.inputs; loc = a.loc; result = none }

-- of the actions below n
pub record RootedTo (c : Case) (s : State) (n : ℕ) : Type 0 where
  pub procs : (k : ℕ) → k < n → (s.actions k).proc < c.procs
  pub locs : (k : ℕ) → k < n → accesses (kind_of (s.actions k)) ≡ true → (s.actions k).loc < c.locs
  pub rooted : (l k : ℕ) → l < 8 → l < c.locs → k < n → stands_at l (s.actions k) ≡ true → s.orders l l (8 + k) ≡ true

abbrev pub Rooted : Case → State → Type 0
Rooted c s = RootedTo c s s.count

-- what a step keeps of the actions before it
module _ (c : Case) (s z : State) (same : (k : ℕ) → k < s.count → bare (z.actions k) ≡ bare (s.actions k)) (more : (l a b : ℕ) → s.orders l a b ≡ true → z.orders l a b ≡ true) where
  rooted_kept : Rooted c s → RootedTo c z s.count
  rooted_kept r =
      record {
        procs = λ k h. subst (λ (x : ℕ). x < c.procs) (sym (by (λ a. a.proc) k h)) (r.procs k h);
        locs = λ k h x. subst (λ (y : ℕ). y < c.locs) (sym (by (λ a. a.loc) k h)) (r.locs k h (sym (by (λ a. accesses (kind_of a)) k h) ∙ x));
        rooted = λ l k i m h x. more l l (8 + k) (r.rooted l k i m h (sym (by (stands_at l) k h) ∙ x));
      }
    where
      by : {A : Type 0} (f : Action → A) (k : ℕ) → k < s.count → f (bare (z.actions k)) ≡ f (bare (s.actions k))
      by f k h = ap f (same k h)

module _ (c : Case) (s : State) (p : ℕ) (I : CanIssue c s p) (r : Rooted c s) where
  keeps : (l a b : ℕ) → s.orders l a b ≡ true → (issued c s p).orders l a b ≡ true
  unfolding issued
  keeps l a b h = joined_if_keeps _ _ _ _ _ a b h

  old : RootedTo c (issued c s p) s.count
  old = rooted_kept c s (issued c s p) (λ k h. ap bare (issued_old c s p k (λ e. omega arith))) keeps r

  located : accesses (kind (next c s p)) ≡ true → (new_action c s p).loc < c.locs
  located a = rw a (leb-false c.locs (or_zero (address c s p)) (sym (ap (λ (b : Bool). b && leb c.locs (or_zero (address c s p))) a) ∙ I.low))

  -- the new item stands after the initial write
  first_edge : (l : ℕ) → l < 8 → l < c.locs → stands_at l (new_action c s p) ≡ true → (issued c s p).orders l l (8 + s.count) ≡ true
  unfolding issued
  first_edge l low m n =
      joined_if_adds (ltb l c.locs && stands_at l (new_action c s p)) (s.orders l) (8 + s.count) (8 + s.count) (earlier c s p l) l (and_make _ _ (lt-ltb _ _ m) n) (omega arith)
      (item_initial (eqb l l) (λ a. eqb a.proc p && stands_at l a) s l low ∙ eq-eqb l l refl)

  rooted_issue : Rooted c (issued c s p)
  rooted_issue =
      record {
        procs = λ k h. at k h (old.procs k) (λ e. subst (λ (a : Action). a.proc < c.procs) (sym (new k e)) I.proc);
        locs = λ k h. at k h (old.locs k) (λ e. subst (λ (a : Action). accesses (kind_of a) ≡ true → a.loc < c.locs) (sym (new k e)) located);
        rooted = λ l k z m h. at k h (old.rooted l k z m) (λ e x. subst (λ (y : ℕ). (issued c s p).orders l l (8 + y) ≡ true) (sym e) (first_edge l z m (sym (ap (stands_at l) (new k e)) ∙ x)));
      }
    where
      at : (k : ℕ) {A : Type 0} → k < (issued c s p).count → (k < s.count → A) → (k ≡ s.count → A) → A
      at k h f g = either k s.count g (λ n. f (omega (arith, issued_count c s p)))

      new : (k : ℕ) → k ≡ s.count → (issued c s p).actions k ≡ new_action c s p
      new k e = ap (issued c s p).actions e ∙ issued_new c s p

rooted_commit : (c : Case) (s : State) (p k e : ℕ) → Rooted c s → Rooted c (committed c s p k e)
unfolding committed
rooted_commit c s p k e r = rooted_kept c s (committed c s p k e) (λ j h. committed_keeps c s p k e bare refl j) (λ l a b h. joined_if_keeps _ _ _ _ _ a b h) r

pub rooted_after : (c : Case) (ts : List Step) (e : State) → Leads (womm c) (initial c) ts e → Rooted c e
rooted_after c =
    always_after (womm c) (Rooted c) (λ s t. by_step c (λ n. Rooted c) (λ n s p I r. rooted_issue c s p I r) (λ n s p k e T. rooted_commit c s p k e) 0 s t)
    (record { procs = λ k h. absurd (omega arith); locs = λ k h. absurd (omega arith); rooted = λ l k z m h. absurd (omega arith) })
