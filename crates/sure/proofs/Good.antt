-- What holds of every state that an accepted schedule leads to: its place counters, names, items and orders fit together. Assumes nothing.
use mathlib.Core.Path.{◌≡◌, refl, sym, ◌∙◌, ap, subst}
use mathlib.Core.Logic.{◌⊎◌, inl, inr, ⊎_elim}
use mathlib.Core.Bool.{Bool, true, false, cond, false≢true}
use mathlib.Core.List.{List, [], ◌∷◌, map}
use mathlib.Core.Option.{Option, none, some}
use Prim.Native.Nat.{ℕ, suc, ◌+◌, ◌≤◌, ◌<◌}
use native.Mathlib.Omega.{arith}
use lib.Dec.{eqb}
use borrow.Author.Tests.{eqb-true, eqb-false}
use Rattle.words.specs.Small.{is_none, put}
use Rattle.words.proofs.Bools.{put_other, put_same}
use Rattle.cases.specs.declared.Instr.TheVariants.{Empty, Read, Write, Local, Branch, Goto, Acquire, Release}
use Rattle.cases.specs.declared.Instr.{Instr}
use Rattle.cases.specs.declared.Case.{Case}
use Rattle.runs.proofs.Walk.{Walk, stop, go}
use Rattle.rules.specs.Kinds.{branching, assigns, kind, label_of, reads}
use Rattle.rules.specs.Commit.{committed}
use Rattle.rules.specs.State.{start, State, kind_of, given, Name, initial, Action}
use Rattle.rules.specs.Step.{Step, issue, after, step_code, neither, commit}
use Rattle.rules.specs.Issue.{place_after, here, new_action, issued, next, renamed}
use Rattle.rules.specs.Womm.{womm}
use Rattle.rules.specs.Order.{joined_if, Order}
use Rattle.rules.proofs.Closed.{Transitive, joined_cases, UpTo, Via, joined_if_transitive}
use Rattle.rules.proofs.Accepted.{after_issue, can_commit, neither_no, can_issue, CanIssue, after_commit}
use Rattle.sure.proofs.Kept.{waits-none, waits_proc}
use Rattle.sure.proofs.Commit.{Commit, the, CanTake, self, input, committed_by, settled_by}

-- action k of processor p is a branch in the queue
pub record Turning (s : State) (p k : ℕ) : Type 0 where
  pub there : k < s.count
  pub mine : (s.actions k).proc ≡ p
  pub waits : (s.actions k).result ≡ none
  pub turns : branching (kind_of (s.actions k)) ≡ true

pub turning_at : (c : Case) (s : State) (t : Commit) → CanTake c s t → (p : ℕ) → t.proc ≡ p → branching (kind_of (self s t)) ≡ true
    → Turning s p t.action
turning_at c s t T p e b =
    record { there = T.there; mine = waits_proc t.proc (self s t) T.waits ∙ e; waits = waits-none t.proc (self s t) T.waits; turns = b }

-- the name refers to an action below n
abbrev pub Below : ℕ → Name → Type 0
Below n (start v) = Unit {0}
Below n (given k) = k < n

abbrev pub AllBelow : ℕ → List Name → Type 0
AllBelow n [] = Unit {0}
AllBelow n (x ∷ l) = Below n x × AllBelow n l

below_more : (n m : ℕ) → n ≤ m → (x : Name) → Below n x → Below m x
below_more n m h (start v) b = tt
below_more n m h (given k) b = omega arith

all_more : (n m : ℕ) → n ≤ m → (l : List Name) → AllBelow n l → AllBelow m l
all_more n m h [] b = tt
all_more n m h (x ∷ l) b = (below_more n m h x b.0, all_more n m h l b.1)

pub all_map : (n : ℕ) (f : ℕ → Name) → ((k : ℕ) → Below n (f k)) → (l : List ℕ) → AllBelow n (map f l)
all_map n f h [] = tt
all_map n f h (x ∷ l) = (h x, all_map n f h l)

pub record Good (s : State) : Type 0 where
  -- no action beyond the count has a value
  pub fresh : (k : ℕ) → s.count ≤ k → (s.actions k).result ≡ none
  -- a processor with a branch in its queue has no place, and no second one
  pub halts : (p k : ℕ) → Turning s p k → is_none (s.places p) ≡ true
  pub alone : (p j k : ℕ) → Turning s p j → Turning s p k → j ≡ k
  pub ordered : (l : ℕ) → Transitive (s.orders l)
  -- names refer to actions
  pub named : (p k : ℕ) → Below s.count (s.names p k)
  pub inputs : (k : ℕ) → AllBelow s.count (s.actions k).inputs
  -- an order is of items
  pub bounded : (l a b : ℕ) → s.orders l a b ≡ true → (a < 8 + s.count) × (b < 8 + s.count)

joined_if_bounded : (b : Bool) (R : Order) (i n m : ℕ) (P : ℕ → Bool) → ((x y : ℕ) → R x y ≡ true → (x < m) × (y < m)) → i < m → n ≤ m → (x y : ℕ)
    → joined_if b R i n P x y ≡ true → (x < m) × (y < m)
unfolding joined_if
joined_if_bounded true R i n m P f h g x y e = ⊎_elim (f x y) (λ v. (up v v.up, down v.down)) (joined_cases R i n P x y e)
  where
    up : (v : Via R i n P x y) → UpTo R x v.from → x < m
    up v (inl q) = omega (arith, v.low)
    up v (inr q) = (f _ _ q).0

    down : UpTo R i y → y < m
    down (inl q) = omega arith
    down (inr q) = (f _ _ q).1
joined_if_bounded false R i n m P f h g x y e = f x y e

branch_stops : (i : Instr) (n : ℕ) → branching (kind i) ≡ true → is_none (place_after i n) ≡ true
branch_stops Empty n h = absurd (false≢true h)
branch_stops (Read d a) n h = absurd (false≢true h)
branch_stops (Write a b) n h = absurd (false≢true h)
branch_stops (Local d e) n h = absurd (false≢true h)
branch_stops (Branch a l) n h = refl
branch_stops (Goto l) n h = absurd (false≢true h)
branch_stops (Acquire a) n h = absurd (false≢true h)
branch_stops (Release a) n h = absurd (false≢true h)

module _ (c : Case) (s : State) (G : Good s) where
  module _ (p : ℕ) (h : CanIssue c s p) where
    -- a branch in the queue is the new action, or was there before
    pub turning_issue : (q k : ℕ) → Turning (issued c s p) q k → ((k ≡ s.count) × (q ≡ p) × (branching (kind (next c s p)) ≡ true)) ⊎ Turning s q k
    unfolding issued
    turning_issue q k w = step (eqb k s.count) refl w.mine w.waits w.turns
      where
        step : (b : Bool) → eqb k s.count ≡ b → (cond b (new_action c s p) (s.actions k)).proc ≡ q
            → (cond b (new_action c s p) (s.actions k)).result ≡ none → branching (kind_of (cond b (new_action c s p) (s.actions k))) ≡ true
            → ((k ≡ s.count) × (q ≡ p) × (branching (kind (next c s p)) ≡ true)) ⊎ Turning s q k
        step true e x y z = inl (eqb-true _ _ e, sym x, z)
        step false e x y z = inr (record { there = omega (arith, w.there, eqb-false k s.count e); mine = x; waits = y; turns = z })

    -- the processor that issues has none
    pub none_here : (k : ℕ) → Turning s p k → ⊥
    none_here k w = false≢true (sym h.place ∙ G.halts p k w)

    named_issue : (q k : ℕ) → Below (suc s.count) ((issued c s p).names q k)
    unfolding issued
    named_issue q k = step (eqb q p)
      where
        old : (q k : ℕ) → Below (suc s.count) (s.names q k)
        old q k = below_more s.count (suc s.count) (omega arith) (s.names q k) (G.named q k)

        new : (o : Option ℕ) → Below (suc s.count) (renamed (s.names p) o (given s.count) k)
        new none = old p k
        new (some d) = at (eqb k d)
          where
            at : (b : Bool) → Below (suc s.count) (cond b (given s.count) (s.names p k))
            at true = omega arith
            at false = old p k

        step : (b : Bool) → Below (suc s.count) (cond b (renamed (s.names p) (assigns (next c s p)) (given s.count)) (s.names q) k)
        step true = new (assigns (next c s p))
        step false = old q k

    inputs_issue : (k : ℕ) → AllBelow (suc s.count) ((issued c s p).actions k).inputs
    unfolding issued
    inputs_issue k = step (eqb k s.count)
      where
        step : (b : Bool) → AllBelow (suc s.count) (cond b (new_action c s p) (s.actions k)).inputs
        step true =
            all_map (suc s.count) (s.names p)
            (λ j. below_more s.count (suc s.count) (omega arith) (s.names p j) (G.named p j))
            (reads (next c s p))
        step false = all_more s.count (suc s.count) (omega arith) (s.actions k).inputs (G.inputs k)

    pub good_issue : Good (issued c s p)
    unfolding issued
    good_issue =
        record {
          fresh = λ k l. ap (λ (a : Action). a.result) (put_other s.actions s.count k (new_action c s p) (λ e. omega arith)) ∙ G.fresh k (omega arith);
          halts = λ q k w.
              ⊎_elim
              (λ e. ap is_none (put_same s.places p q (place_after (next c s p) (here c s p)) e.1) ∙ branch_stops (next c s p) (here c s p) e.2)
              (λ v. ap is_none (put_other s.places p q (place_after (next c s p) (here c s p)) (λ e. none_here k (subst (λ (x : ℕ). Turning s x k) e v))) ∙ G.halts q k v)
              (turning_issue q k w);
          alone = λ q j k v w. alone q j k (turning_issue q j v) (turning_issue q k w);
          ordered = λ l. joined_if_transitive _ _ _ _ _ (G.ordered l);
          named = named_issue;
          inputs = inputs_issue;
          bounded = λ l a b. joined_if_bounded _ _ _ _ _ _ (λ x y e. let w = G.bounded l x y e in (omega (arith, w.0), omega (arith, w.1))) (omega arith) (omega arith) a b;
        }
      where
        alone : (q j k : ℕ) → ((j ≡ s.count) × (q ≡ p) × (branching (kind (next c s p)) ≡ true)) ⊎ Turning s q j
            → ((k ≡ s.count) × (q ≡ p) × (branching (kind (next c s p)) ≡ true)) ⊎ Turning s q k → j ≡ k
        alone q j k (inl x) (inl y) = x.0 ∙ sym y.0
        alone q j k (inl x) (inr y) = absurd (none_here k (subst (λ (z : ℕ). Turning s z k) x.1 y))
        alone q j k (inr x) (inl y) = absurd (none_here j (subst (λ (z : ℕ). Turning s z j) y.1 x))
        alone q j k (inr x) (inr y) = G.alone q j k x y

  module _ (t : Commit) (h : CanTake c s t) where
    pub turning_commit : (q k : ℕ) → Turning (committed_by c s t) q k → (k ≡ t.action → ⊥) × Turning s q k
    unfolding committed
    turning_commit q k w = step (eqb k t.action) refl w.mine w.waits w.turns
      where
        step : (b : Bool) → eqb k t.action ≡ b → (cond b (settled_by c s t) (s.actions k)).proc ≡ q
            → (cond b (settled_by c s t) (s.actions k)).result ≡ none → branching (kind_of (cond b (settled_by c s t) (s.actions k))) ≡ true
            → (k ≡ t.action → ⊥) × Turning s q k
        step true e x y z = absurd (false≢true (ap is_none y))
        step false e x y z = (eqb-false _ _ e, record { there = w.there; mine = x; waits = y; turns = z })

    halts_commit : (q k : ℕ) → (k ≡ t.action → ⊥) → Turning s q k → is_none ((committed_by c s t).places q) ≡ true
    unfolding committed
    halts_commit q k d w = step (branching (kind_of (self s t))) refl
      where
        differ : branching (kind_of (self s t)) ≡ true → q ≡ t.proc → ⊥
        differ b e =
            d
            (G.alone q k t.action w (turning_at c s t h q (sym e) b))

        step : (b : Bool) → branching (kind_of (self s t)) ≡ b
            → is_none (cond b (put s.places t.proc (some (cond (eqb (input s t 0) 0) (suc (self s t).place) (label_of (self s t).instr)))) s.places q) ≡ true
        step true e = ap is_none (put_other s.places t.proc q _ (differ e)) ∙ G.halts q k w
        step false e = G.halts q k w

    inputs_commit : (k : ℕ) → AllBelow s.count ((committed_by c s t).actions k).inputs
    unfolding committed
    inputs_commit k = step (eqb k t.action)
      where
        step : (b : Bool) → AllBelow s.count (cond b (settled_by c s t) (s.actions k)).inputs
        step true = G.inputs t.action
        step false = G.inputs k

    pub good_commit : Good (committed_by c s t)
    unfolding committed
    good_commit =
        record {
          fresh = λ k l. ap (λ (a : Action). a.result) (put_other s.actions t.action k (settled_by c s t) (λ e. omega (arith, h.there))) ∙ G.fresh k l;
          halts = λ q k w. let v = turning_commit q k w in halts_commit q k v.0 v.1;
          alone = λ q j k v w. G.alone q j k (turning_commit q j v).1 (turning_commit q k w).1;
          ordered = λ l. joined_if_transitive _ _ _ _ _ (G.ordered l);
          named = G.named;
          inputs = inputs_commit;
          bounded = λ l a b. joined_if_bounded _ _ _ _ _ _ (G.bounded l) (omega (arith, h.there)) (omega arith) a b;
        }

  pub good_step : (t : Step) → step_code c s t ≡ 0 → Good (after c s t)
  good_step (issue p) h = rw (after_issue c s p) (good_issue p (can_issue c s p h))
  good_step (commit p k e) h = rw (after_commit c s p k e) (good_commit (the p k e) (can_commit c s p k e h))
  good_step neither h = absurd (neither_no c s h)

pub good_initial : (c : Case) → Good (initial c)
good_initial c =
    record {
      fresh = λ k l. refl;
      halts = λ p k w. absurd (omega (arith, w.there));
      alone = λ p j k v w. absurd (omega (arith, w.there));
      ordered = λ l a b d x y. absurd (false≢true x);
      named = λ p k. tt;
      inputs = λ k. tt;
      bounded = λ l a b x. absurd (false≢true x);
    }

-- each reachable state is good
pub good : (c : Case) {s e : State} {ts : List Step} → Walk (womm c) s ts e → Good s → Good e
good c (stop h) g = subst Good h g
good c (go {s = s} {t = t} h w) g = good c w (good_step c s g t h)
