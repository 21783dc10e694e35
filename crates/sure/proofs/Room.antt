-- Code 23 does not arise in a case without backward jumps: no processor issues more than 12 actions. Assumes nothing.
use mathlib.Core.Path.{◌≡◌, refl, sym, ◌∙◌, ap, ap₂, subst}
use mathlib.Core.Logic.{⊎_elim}
use mathlib.Core.Bool.{Bool, true, false, cond, ◌&&◌, false≢true}
use mathlib.Core.Option.{Option, none, some}
use Prim.Native.Nat.{ℕ, zero, suc, ◌+◌, ◌≤◌, ◌<◌}
use native.Mathlib.Omega.{arith}
use lib.Dec.{eqb, leb}
use borrow.Author.Tests.{leb-false, lt-leb, eqb-true, eqb-false, eq-eqb, ne_eqb, not-true}
use Rattle.words.specs.Small.{or_zero, some_below, put, is_none}
use Rattle.words.proofs.Bools.{cond-true, decide, cond-false, fails, or_left, below_make, put_same, put_other}
use Rattle.cases.specs.Case.{instr_at, count_of}
use Rattle.cases.specs.declared.Instr.TheVariants.{Empty, Read, Write, Local, Branch, Goto, Acquire, Release}
use Rattle.cases.specs.declared.Instr.{Instr}
use Rattle.cases.specs.declared.Case.{Case}
use Rattle.rules.specs.Kinds.{label_of, kind, branching, jumping}
use Rattle.rules.specs.Commit.{committed}
use Rattle.rules.specs.State.{kind_of, State, Action, initial}
use Rattle.rules.specs.Step.{Step, commit, after, issue, neither, step_code}
use Rattle.rules.specs.Issue.{place_after, new_action, here, issued, next}
use Rattle.rules.proofs.Accepted.{can_issue, neither_no, CanIssue, after_commit, can_commit, after_issue}
use Rattle.sure.specs.Sure.{forward, backward, Sized}
use Rattle.sure.proofs.Kept.{issued_new, issued_old, committed_field}
use Rattle.sure.proofs.Good.{turning_at, Good, Turning, turning_issue, none_here, turning_commit}
use Rattle.sure.proofs.Commit.{committed_by, the, Commit, input, self, CanTake}

-- of these sizes, and every label is greater than its own place
pub record Forward (c : Case) : Type 0 where
  pub sized : Sized c
  pub ahead : (p i : ℕ) → p < c.procs → i < count_of c p → jumping (kind (instr_at c p i)) ≡ true → i < label_of (instr_at c p i)

abbrev pub one : ℕ → ℕ → ℕ
one x q = cond (eqb x q) 1 0

-- how many of the first n actions are of processor q
pub used : (ℕ → Action) → ℕ → ℕ → ℕ
used A zero q = 0
used A (suc n) q = one (A n).proc q + used A n q

used_same : (A B : ℕ → Action) (n q : ℕ) → ((k : ℕ) → k < n → (A k).proc ≡ (B k).proc) → used A n q ≡ used B n q
unfolding used
used_same A B zero q h = refl
used_same A B (suc n) q h = ap₂ (λ (x y : ℕ). one x q + y) (h n (omega arith)) (used_same A B n q (λ k l. h k (omega arith)))

ones : (x : ℕ) → x < 4 → one x 0 + one x 1 + one x 2 + one x 3 ≡ 1
ones zero h = refl
ones (suc zero) h = refl
ones (suc (suc zero)) h = refl
ones (suc (suc (suc zero))) h = refl
ones (suc (suc (suc (suc x)))) h = absurd (omega arith)

used_all : (A : ℕ → Action) (n : ℕ) → ((k : ℕ) → k < n → (A k).proc < 4) → used A n 0 + used A n 1 + used A n 2 + used A n 3 ≡ n
unfolding used
used_all A zero h = refl
used_all A (suc n) h = omega (arith, used_all A n (λ k l. h k (omega arith)), ones (A n).proc (h n (omega arith)))

pub record Counted (s : State) : Type 0 where
  pub procs : (k : ℕ) → k < s.count → (s.actions k).proc < 4
  pub placed : (q i : ℕ) → s.places q ≡ some i → used s.actions s.count q ≤ i
  pub turned : (q k : ℕ) → Turning s q k → used s.actions s.count q ≤ suc (s.actions k).place
  pub ahead : (k : ℕ) → k < s.count → branching (kind_of (s.actions k)) ≡ true → (s.actions k).place < label_of (s.actions k).instr
  pub most : (q : ℕ) → used s.actions s.count q ≤ 12

known : (o : Option ℕ) → is_none o ≡ false → o ≡ some (or_zero o)
known none h = absurd (false≢true (sym h))
known (some v) h = refl

branch_jumps : (k : ℕ) → branching k ≡ true → jumping k ≡ true
branch_jumps k h = or_left (branching k) _ h

place-ahead : (x : Instr) (i j : ℕ) → (jumping (kind x) ≡ true → i < label_of x) → place_after x i ≡ some j → i < j
place-ahead Empty i j h e = omega (arith, ap or_zero e)
place-ahead (Read d a) i j h e = omega (arith, ap or_zero e)
place-ahead (Write a b) i j h e = omega (arith, ap or_zero e)
place-ahead (Local d x) i j h e = omega (arith, ap or_zero e)
place-ahead (Branch a l) i j h e = absurd (false≢true (sym (ap is_none e)))
place-ahead (Goto l) i j h e = omega (arith, ap or_zero e, h refl)
place-ahead (Acquire a) i j h e = omega (arith, ap or_zero e)
place-ahead (Release a) i j h e = omega (arith, ap or_zero e)

module _ (c : Case) (F : Forward c) (s : State) (G : Good s) (N : Counted s) where
  inside : (p : ℕ) → CanIssue c s p
      → (used s.actions s.count p ≤ here c s p) × (here c s p < count_of c p) × (used s.actions s.count p ≤ 11)
  inside p I =
      let a = N.placed p (here c s p) (known (s.places p) I.place) in
      let b = leb-false (count_of c p) (here c s p) I.inside in
      (a, b, omega (arith, F.sized.short p I.proc))

  -- two processors that can issue leave room for two
  pub room : (p q : ℕ) → p < 4 → q < 4 → (p ≡ q → ⊥) → CanIssue c s p → CanIssue c s q → leb 48 (suc s.count) ≡ false
  room p q lp lq d I J =
      lt-leb 48 (suc s.count) (omega (arith, each 0, each 1, each 2, each 3, ones p lp, ones q lq, used_all s.actions s.count N.procs))
    where
      each : (r : ℕ) → used s.actions s.count r + one p r + one q r ≤ 12
      each r = step (eqb p r) (eqb q r) refl refl
        where
          step : (a b : Bool) → eqb p r ≡ a → eqb q r ≡ b → used s.actions s.count r + cond a 1 0 + cond b 1 0 ≤ 12
          step true true x y = absurd (d (eqb-true _ _ x ∙ sym (eqb-true _ _ y)))
          step true false x y = omega (arith, (inside p I).2, ap (used s.actions s.count) (eqb-true p r x))
          step false true x y = omega (arith, (inside q J).2, ap (used s.actions s.count) (eqb-true q r y))
          step false false x y = omega (arith, N.most r)

  module _ (p : ℕ) (lp : p < 4) (I : CanIssue c s p) where
    used_issue : (q : ℕ) → used (issued c s p).actions (suc s.count) q ≡ one p q + used s.actions s.count q
    unfolding used
    used_issue q =
        ap₂ (λ (a : Action) (x : ℕ). one a.proc q + x) (issued_new c s p)
        (used_same (issued c s p).actions s.actions s.count q (λ k l. ap (λ (a : Action). a.proc) (issued_old c s p k l)))

    used_mine : used (issued c s p).actions (suc s.count) p ≡ suc (used s.actions s.count p)
    used_mine = omega (arith, used_issue p, cond-true {A = ℕ} (eqb p p) 1 0 (eq-eqb p p refl))

    used_other : (q : ℕ) → (q ≡ p → ⊥) → used (issued c s p).actions (suc s.count) q ≡ used s.actions s.count q
    used_other q d = omega (arith, used_issue q, cond-false {A = ℕ} (eqb p q) 1 0 (ne_eqb p q (λ e. d (sym e))))

    -- the new action, or an old one
    split : (P : Action → Type 0) → P (new_action c s p) → (k : ℕ) → k < suc s.count → (k < s.count → P (s.actions k))
        → P ((issued c s p).actions k)
    split P new k l h =
        ⊎_elim
        (λ e. subst (λ (j : ℕ). P ((issued c s p).actions j)) (sym (eqb-true k s.count e)) (subst P (sym (issued_new c s p)) new))
        (λ e. let m : k < s.count = omega (arith, eqb-false k s.count e) in subst P (sym (issued_old c s p k m)) (h m))
        (decide (eqb k s.count))

    pub counted_issue : Counted (issued c s p)
    unfolding issued
    counted_issue =
        record {
          procs = λ k l. split (λ a. a.proc < 4) lp k l (N.procs k);
          placed = λ q i e.
              ⊎_elim (λ x. placed_mine q i (eqb-true q p x) e)
              (λ x. subst (λ (n : ℕ). n ≤ i) (sym (used_other q (eqb-false q p x))) (N.placed q i (sym (put_other s.places p q _ (eqb-false q p x)) ∙ e)))
              (decide (eqb q p));
          turned = λ q k w. ⊎_elim (λ x. turned_new q k x.0 x.1) (λ v. turned_old q k v) (turning_issue c s G p I q k w);
          ahead = λ k l. split (λ a. branching (kind_of a) ≡ true → a.place < label_of a.instr) (λ b. jumps (branch_jumps (kind (next c s p)) b)) k l (N.ahead k);
          most = λ q.
              ⊎_elim
              (λ x. omega (arith, ap (used (issued c s p).actions (suc s.count)) (eqb-true q p x), used_mine, (inside p I).2))
              (λ x. subst (λ (n : ℕ). n ≤ 12) (sym (used_other q (eqb-false q p x))) (N.most q))
              (decide (eqb q p));
        }
      where
        jumps : jumping (kind (next c s p)) ≡ true → here c s p < label_of (next c s p)
        jumps = F.ahead p (here c s p) I.proc (inside p I).1

        placed_mine : (q i : ℕ) → q ≡ p → put s.places p (place_after (next c s p) (here c s p)) q ≡ some i
            → used (issued c s p).actions (suc s.count) q ≤ i
        placed_mine q i x e =
            omega
            (arith, ap (used (issued c s p).actions (suc s.count)) x, used_mine, (inside p I).0, place-ahead (next c s p) (here c s p) i jumps (sym (put_same s.places p q (place_after (next c s p) (here c s p)) x) ∙ e))

        turned_new : (q k : ℕ) → k ≡ s.count → q ≡ p → used (issued c s p).actions (suc s.count) q ≤ suc ((issued c s p).actions k).place
        turned_new q k x y =
            omega
            (arith, ap (used (issued c s p).actions (suc s.count)) y, used_mine, (inside p I).0, ap (λ (a : Action). a.place) (ap (issued c s p).actions x ∙ (issued_new c s p)))

        turned_old : (q k : ℕ) → Turning s q k → used (issued c s p).actions (suc s.count) q ≤ suc ((issued c s p).actions k).place
        turned_old q k v =
            omega
            (arith, used_other q (λ e. none_here c s G p I k (subst (λ (x : ℕ). Turning s x k) e v)), N.turned q k v, ap (λ (a : Action). a.place) (issued_old c s p k v.there))

  module _ (t : Commit) (T : CanTake c s t) where
    used_commit : (q : ℕ) → used (committed_by c s t).actions s.count q ≡ used s.actions s.count q
    used_commit q = used_same (committed_by c s t).actions s.actions s.count q (λ k l. committed_field c s t (λ a. a.proc) refl k)

    placed_commit : (q i : ℕ) → (committed_by c s t).places q ≡ some i → used s.actions s.count q ≤ i
    unfolding committed
    placed_commit q i e = step (branching (kind_of (self s t))) refl e
      where
        to : ℕ
        to = cond (eqb (input s t 0) 0) (suc (self s t).place) (label_of (self s t).instr)

        further : branching (kind_of (self s t)) ≡ true → (b : Bool) → (self s t).place < cond b (suc (self s t).place) (label_of (self s t).instr)
        further h true = omega arith
        further h false = N.ahead t.action T.there h

        mine : branching (kind_of (self s t)) ≡ true → q ≡ t.proc → to ≡ i → used s.actions s.count q ≤ i
        mine h x y =
            omega
            (arith, N.turned q t.action (turning_at c s t T q (sym x) h), further h (eqb (input s t 0) 0))

        step : (b : Bool) → branching (kind_of (self s t)) ≡ b → cond b (put s.places t.proc (some to)) s.places q ≡ some i
            → used s.actions s.count q ≤ i
        step true h e =
            ⊎_elim
            (λ x. mine h (eqb-true _ _ x) (ap or_zero (sym (put_same s.places t.proc q (some to) (eqb-true _ _ x)) ∙ e)))
            (λ x. N.placed q i (sym (put_other s.places t.proc q (some to) (eqb-false _ _ x)) ∙ e))
            (decide (eqb q t.proc))
        step false h e = N.placed q i e

    pub counted_commit : Counted (committed_by c s t)
    unfolding committed
    counted_commit =
        record {
          procs = λ k l. subst (λ (x : ℕ). x < 4) (sym (committed_field c s t (λ a. a.proc) refl k)) (N.procs k l);
          placed = λ q i e. subst (λ (n : ℕ). n ≤ i) (sym (used_commit q)) (placed_commit q i e);
          turned = λ q k w. omega (arith, used_commit q, N.turned q k (turning_commit c s G t T q k w).1, committed_field c s t (λ a. a.place) refl k);
          ahead = λ k l b.
              omega
              (arith, N.ahead k l (sym (committed_field c s t (λ a. branching (kind_of a)) refl k) ∙ b), committed_field c s t (λ a. a.place) refl k, committed_field c s t (λ a. label_of a.instr) refl k);
          most = λ q. subst (λ (n : ℕ). n ≤ 12) (sym (used_commit q)) (N.most q);
        }

  pub counted_step : (t : Step) → step_code c s t ≡ 0 → Counted (after c s t)
  counted_step (issue p) h = let I = can_issue c s p h in rw (after_issue c s p) (counted_issue p (omega (arith, I.proc, F.sized.few)) I)
  counted_step (commit p k e) h = rw (after_commit c s p k e) (counted_commit (the p k e) (can_commit c s p k e h))
  counted_step neither h = absurd (neither_no c s h)

pub counted-initial : (c : Case) → Counted (initial c)
unfolding used
counted-initial c =
    record {
      procs = λ k l. absurd (omega arith);
      placed = λ q i e. omega arith;
      turned = λ q k w. absurd (omega (arith, w.there));
      ahead = λ k l. absurd (omega arith);
      most = λ q. omega arith;
    }

-- no number below n passes
below_none : (n : ℕ) (f : ℕ → Bool) → some_below n f ≡ false → (k : ℕ) → k < n → f k ≡ false
below_none n f h k l = fails (some_below n f) (f k) (below_make n f k l) h

-- a case that passes the test `forward`
pub forward_cases : (c : Case) → Sized c → forward c ≡ true → Forward c
unfolding forward
forward_cases c z h = record { sized = z; ahead = λ p i m g j. leb-false (label_of (instr_at c p i)) i (ahead p i m g j) }
  where
    none-back : (p i : ℕ) → p < c.procs → i < count_of c p → backward (instr_at c p i) i ≡ false
    none-back p i m g =
        below_none (count_of c p) (λ j. backward (instr_at c p j) j)
        (below_none c.procs (λ q. some_below (count_of c q) (λ j. backward (instr_at c q j) j)) (not-true _ h) p m)
        i g

    ahead : (p i : ℕ) → p < c.procs → i < count_of c p → jumping (kind (instr_at c p i)) ≡ true → leb (label_of (instr_at c p i)) i ≡ false
    ahead p i m g j = sym (ap (λ (b : Bool). b && leb (label_of (instr_at c p i)) i) j) ∙ none-back p i m g
