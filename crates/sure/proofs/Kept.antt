-- What a step leaves of an action that it does not commit. Assumes nothing.
use mathlib.Core.Path.{◌≡◌, refl, sym, ◌∙◌, ap, subst}
use mathlib.Core.Bool.{Bool, true, false, not, cond, ◌&&◌, false≢true}
use mathlib.Core.List.{List, [], ◌∷◌}
use mathlib.Core.Option.{Option, none, some}
use Prim.Native.Nat.{ℕ, zero, suc, ◌-◌, ◌≤◌, ◌<◌}
use native.Mathlib.Omega.{arith}
use lib.Dec.{eqb, ltb}
use lib.ListN.{get_or}
use borrow.Author.Tests.{eqb-true, eq-eqb}
use Rattle.words.specs.Small.{is_none, any, or_zero, put}
use Rattle.words.proofs.Bools.{or_none, put_other, and_both, below_fewer, put_same, below_make, and_make}
use Rattle.cases.specs.Case.{word_of}
use Rattle.cases.specs.declared.Instr.TheVariants.{Empty, Read, Write, Local, Branch, Goto, Acquire, Release}
use Rattle.cases.specs.declared.Instr.{Instr}
use Rattle.cases.specs.declared.Case.{Case}
use Rattle.rules.specs.Kinds.{reading, kind, held_by}
use Rattle.rules.specs.Commit.{barred, committed, visible}
use Rattle.rules.specs.State.{Action, given, Name, start, kind_of, value_of, waiting, State, item_value}
use Rattle.rules.specs.Issue.{issued, new_action}
use Rattle.sure.proofs.Commit.{input, sees_take, result_by, item, settled_by, committed_by, self, CanTake, Commit, holds}

pub record Kept (s s' : State) (k : ℕ) : Type 0 where
  pub more : s.count ≤ s'.count
  pub same : s'.actions k ≡ s.actions k
  -- what has a value keeps it
  pub values : (n : Name) → is_none (value_of s n) ≡ false → value_of s' n ≡ value_of s n
  -- of the actions before it, those in the queue were there already
  pub queue : (p j : ℕ) → j < k → waiting p (s'.actions j) ≡ true → s'.actions j ≡ s.actions j

pub waits-none : (p : ℕ) (a : Action) → waiting p a ≡ true → a.result ≡ none
waits-none p a h = go a.result (and_both (eqb a.proc p) (is_none a.result) h).1
  where
    go : (o : Option ℕ) → is_none o ≡ true → o ≡ none
    go none e = refl
    go (some v) e = absurd (false≢true e)

pub waits_proc : (p : ℕ) (a : Action) → waiting p a ≡ true → a.proc ≡ p
waits_proc p a h = eqb-true a.proc p (and_both (eqb a.proc p) (is_none a.result) h).0

-- a committed action is not in the queue
pub not-waiting : (p : ℕ) (a : Action) (v : ℕ) → a.result ≡ some v → waiting p a ≡ true → ⊥
not-waiting p a v e h = false≢true (sym (ap is_none e) ∙ (and_both (eqb a.proc p) (is_none a.result) h).1)

-- an accepted commit is held back by none of its processor's queue
pub unheld : (c : Case) (s : State) (t : Commit) → CanTake c s t → (j : ℕ) → j < t.action → (s.actions j).proc ≡ t.proc
    → (s.actions j).result ≡ none
    → held_by (kind_of (self s t)) (kind_of (s.actions j)) (eqb (s.actions j).loc (self s t).loc) ≡ true → ⊥
unheld c s t T j l p n h =
    false≢true (sym T.free ∙ below_make t.action (holds s t) j l (and_make (waiting t.proc (s.actions j)) _ (and_make _ _ (eq-eqb _ _ p) (ap is_none n)) h))

-- an action without a value gets one: what had a value keeps it, and what is in the queue was there
pub values_put : (s s' : State) (k : ℕ) (a : Action) → s'.actions ≡ put s.actions k a → (s.actions k).result ≡ none → (n : Name)
    → is_none (value_of s n) ≡ false → value_of s' n ≡ value_of s n
values_put s s' k a q f (start v) e = refl
values_put s s' k a q f (given j) e =
    ap (λ (A : ℕ → Action). (A j).result) q
    ∙ ap (λ (b : Action). b.result) (put_other s.actions k j a (λ x. false≢true (sym e ∙ ap is_none (ap (λ (i : ℕ). (s.actions i).result) x ∙ f))))

pub queue_put : (A : ℕ → Action) (k : ℕ) (a : Action) (v : ℕ) → a.result ≡ some v → (p j : ℕ) → waiting p (put A k a j) ≡ true → put A k a j ≡ A j
queue_put A k a v q p j w = put_other A k j a (λ e. not-waiting p a v q (subst (λ (b : Action). waiting p b ≡ true) (put_same A k j a e) w))

-- a commit leaves of each action all but its result
pub committed_field : {X : Type 0} (c : Case) (s : State) (t : Commit) (f : Action → X) → f (settled_by c s t) ≡ f (self s t) → (k : ℕ)
    → f ((committed_by c s t).actions k) ≡ f (s.actions k)
unfolding committed
committed_field c s t f h k = step (eqb k t.action) refl
  where
    step : (b : Bool) → eqb k t.action ≡ b → f (cond b (settled_by c s t) (s.actions k)) ≡ f (s.actions k)
    step true e = h ∙ ap (λ (j : ℕ). f (s.actions j)) (sym (eqb-true _ _ e))
    step false e = refl

-- an issue leaves the actions that were issued before, and adds one
pub issued_old : (c : Case) (s : State) (p k : ℕ) → k < s.count → (issued c s p).actions k ≡ s.actions k
unfolding issued
issued_old c s p k h = put_other s.actions s.count k (new_action c s p) (λ e. omega arith)

pub issued_new : (c : Case) (s : State) (p : ℕ) → (issued c s p).actions s.count ≡ new_action c s p
unfolding issued
issued_new c s p = put_same s.actions s.count s.count (new_action c s p) refl

pub kept_commit : (c : Case) (s : State) (u : Commit) (k : ℕ) → CanTake c s u → (k ≡ u.action → ⊥) → Kept s (committed_by c s u) k
unfolding committed
kept_commit c s u k h d =
    record {
      more = omega arith;
      same = put_other s.actions u.action k (settled_by c s u) d;
      values = values_put s (committed_by c s u) u.action (settled_by c s u) refl (waits-none u.proc (self s u) h.waits);
      queue = λ p j l. queue_put s.actions u.action (settled_by c s u) _ refl p j;
    }

pub kept_issue : (c : Case) (s : State) (q k : ℕ) → (s.actions s.count).result ≡ none → k < s.count → Kept s (issued c s q) k
unfolding issued
kept_issue c s q k f d =
    record {
      more = omega arith;
      same = issued_old c s q k d;
      values = values_put s (issued c s q) s.count (new_action c s q) refl f;
      queue = λ p j l w. issued_old c s q j (omega arith);
    }

-- what was defined is defined
pub ready_kept : (s s' : State) (k : ℕ) → Kept s s' k → (l : List Name) → any (λ n. is_none (value_of s n)) l ≡ false
    → any (λ n. is_none (value_of s' n)) l ≡ false
ready_kept s s' k K [] e = refl
ready_kept s s' k K (n ∷ l) e =
    let w = or_none (is_none (value_of s n)) (any (λ m. is_none (value_of s m)) l) e in rw (K.values n w.0, w.0) (ready_kept s s' k K l w.1)

-- what an action before it in the queue holds back, it held back before
pub holds_kept : (s s' : State) (t : Commit) → Kept s s' t.action → (j : ℕ) → j < t.action → holds s' t j ≡ true → holds s t j ≡ true
holds_kept s s' t K j l e = rw (← K.queue t.proc j l (and_both _ _ e).0, ← K.same) e

module _ (c : Case) (s s' : State) (t : Commit) (K : Kept s s' t.action) (h : CanTake c s t) where
  same_input : (l : List Name) (i : ℕ) → any (λ n. is_none (value_of s n)) l ≡ false
      → value_of s' (get_or l i (start none)) ≡ value_of s (get_or l i (start none))
  same_input [] i e = refl
  same_input (n ∷ l) zero e = K.values n (or_none (is_none (value_of s n)) (any (λ m. is_none (value_of s m)) l) e).0
  same_input (n ∷ l) (suc i) e = same_input l i (or_none (is_none (value_of s n)) (any (λ m. is_none (value_of s m)) l) e).1

  pub input_same : (i : ℕ) → input s' t i ≡ input s t i
  input_same i = rw K.same (ap or_zero (same_input (self s t).inputs i h.ready))

  pub item_kept : (e : ℕ) → is_none (item_value c s e) ≡ false → item_value c s' e ≡ item_value c s e
  item_kept e = step (ltb e 8)
    where
      step : (b : Bool) → is_none (cond b (some (word_of c e)) (s.actions (e - 8)).result) ≡ false
          → cond b (some (word_of c e)) (s'.actions (e - 8)).result ≡ cond b (some (word_of c e)) (s.actions (e - 8)).result
      step true x = refl
      step false x = K.values (given (e - 8)) x

  pub carry : barred t.proc (kind_of (self s t)) (s'.holders (input s t 0)) ≡ false
      → (reading (kind_of (self s t)) && not (visible c s' (self s t).loc (item t) t.source)) ≡ false → CanTake c s' t
  carry ho se =
      record {
        proc = h.proc;
        there = omega (arith, h.there, K.more);
        waits = rw K.same h.waits;
        plain = rw K.same h.plain;
        free = below_fewer t.action (holds s t) (holds s' t) (holds_kept s s' t K) h.free;
        ready = rw K.same (ready_kept s s' t.action K (self s t).inputs h.ready);
        low = rw (input_same 0, K.same) h.low;
        allowed = rw (input_same 0, K.same) ho;
        sees = rw K.same se;
      }

  -- a read that is accepted takes a value
  pub source_known : reading (kind_of (self s t)) ≡ true → is_none (item_value c s t.source) ≡ false
  source_known r = (sees_take c s t h r).known

  result-same : (i : Instr) → (reading (kind i) ≡ true → is_none (item_value c s t.source) ≡ false) → result_by c s' t i ≡ result_by c s t i
  result-same Empty f = refl
  result-same (Read d a) f = ap or_zero (item_kept t.source (f refl))
  result-same (Write a b) f = input_same 1
  result-same (Local d e) f = rw (input_same 0, input_same 1)
  result-same (Branch a l) f = refl
  result-same (Goto l) f = refl
  result-same (Acquire a) f = input_same 0
  result-same (Release a) f = input_same 0

  pub settled_same : settled_by c s' t ≡ settled_by c s t
  settled_same = rw (K.same, result-same (self s t).instr source_known) refl
