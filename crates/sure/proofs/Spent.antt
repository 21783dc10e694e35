-- Spent steps: the commit of a read, once accepted, changes places with every other step, that of an acquire with all but an acquire of its
-- location, an issue with all but its processor's next, while there is room. Assumes nothing.
use mathlib.Core.Path.{◌≡◌, refl, sym, ◌∙◌, subst, ap}
use mathlib.Core.Logic.{⊎_elim}
use mathlib.Core.Bool.{true, false, false≢true}
use mathlib.Core.Option.{none}
use Prim.Native.Nat.{ℕ, zero, suc, ◌<◌}
use native.Mathlib.Omega.{arith}
use lib.Dec.{eqb}
use borrow.Author.Tests.{eqb-false, eq-eqb}
use Rattle.words.proofs.Bools.{decide, or_none, and_make, put_other, or_cases}
use Rattle.cases.specs.declared.Case.{Case}
use Rattle.rules.specs.Kinds.{reading, branching, releasing, writing, acquiring}
use Rattle.rules.specs.Commit.{committed}
use Rattle.rules.specs.State.{kind_of, Action, State}
use Rattle.rules.specs.Step.{issue, after, step_code, commit, neither, Step}
use Rattle.rules.proofs.Accepted.{can_commit, after_issue, neither_no}
use Rattle.sure.specs.Spent.{Spent, wakes, asleep, restable, rivals, taking, Key, issuing, step_by, restful, Rests, Resting, Rested, Through, Else}
use Rattle.sure.proofs.Kept.{issued_old, committed_field, waits-none, waits_proc}
use Rattle.sure.proofs.Good.{Good}
use Rattle.sure.proofs.Commits.{Apart, turned, can_after, unread_after, commits_meet, acquires_meet}
use Rattle.sure.proofs.Sure.{SureCommit}
use Rattle.sure.proofs.Firm.{Firm, was_queued, past_acquire}
use Rattle.sure.proofs.Whole.{count-after}
use Rattle.sure.proofs.Moves.{Alike, Moves, Passes, passes_of, other_way, commits_move, commit_moves, issues_pass}
use Rattle.sure.proofs.Commit.{after-take, CanTake, can_take, as_step, committed_by, the, self, Commit, settled_by}
use Rattle.sure.proofs.Held.{read_only, acquire_only}
use Rattle.sure.proofs.Sure

-- the step does not commit action k
abbrev pub Elsewhere : ℕ → Step → Type 0
Elsewhere k (issue p) = Unit {0}
Elsewhere k (commit p j e) = k ≡ j → ⊥
Elsewhere k neither = Unit {0}

-- THE DIAMOND of reads: the accepted commit of a read, and any other accepted step that does not commit the same action
module _ (c : Case) (s : State) (G : Good s) (F : Firm s) (t : Commit) (h : step_code c s (as_step t) ≡ 0) (r : reading (kind_of (self s t)) ≡ true) where
  T : CanTake c s t
  T = can_take c s t h

  read_commit : (u : Commit) → step_code c s (as_step u) ≡ 0 → (t.action ≡ u.action → ⊥) → Moves c s (as_step t) (as_step u)
  read_commit u g d =
      commits_move c s t u still (can_after c s u t U T (turned c s t u A) k.1) (sym (commits_meet c s u t U T (turned c s t u A) k.1))
    where
      U : CanTake c s u
      U = can_take c s u g

      k : (branching (kind_of (self s t)) ≡ false) × (acquiring (kind_of (self s t)) ≡ false) × (releasing (kind_of (self s t)) ≡ false) × (writing (kind_of (self s t)) ≡ false)
      k = read_only (kind_of (self s t)) r

      A : Apart c s t u
      A = record { differ = d; locks = λ x y z. false≢true (sym (rw (k.1, k.2) refl) ∙ x); lone = λ x y z. false≢true (sym k.0 ∙ x) }

      still : CanTake c (committed_by c s u) t
      still = ⊎_elim (λ a. past_acquire c s G F t u T U d r a) (λ a. can_after c s t u T U A a) (decide (acquiring (kind_of (self s u))))

  pub read_moves : (u : Step) → step_code c s u ≡ 0 → Elsewhere t.action u → Moves c s (as_step t) u
  read_moves (issue q) g d = commit_moves c s G t h q g
  read_moves (commit q j e) g d = read_commit (the q j e) g d
  read_moves neither g d = absurd (neither_no c s g)

-- THE DIAMOND of acquires: the accepted commit of an acquire, and any other accepted step but an acquire of the same location
module _ (c : Case) (s : State) (G : Good s) (F : Firm s) (t : Commit) (h : step_code c s (as_step t) ≡ 0) (a : acquiring (kind_of (self s t)) ≡ true) where
  W : CanTake c s t
  W = can_take c s t h

  k : (branching (kind_of (self s t)) ≡ false) × (reading (kind_of (self s t)) ≡ false) × (releasing (kind_of (self s t)) ≡ false)
  k = acquire_only (kind_of (self s t)) a

  module _ (u : Commit) (g : step_code c s (as_step u) ≡ 0) (d : t.action ≡ u.action → ⊥) where
    O : CanTake c s u
    O = can_take c s u g

    -- neither is a read
    unread : Apart c s t u → reading (kind_of (self s u)) ≡ false → committed_by c (committed_by c s u) t ≡ committed_by c (committed_by c s t) u
        → Moves c s (as_step t) (as_step u)
    unread A r m = commits_move c s t u (unread_after c s t u W O A k.1) (unread_after c s u t O W (turned c s t u A) r) m

    past_read : reading (kind_of (self s u)) ≡ true → Moves c s (as_step t) (as_step u)
    past_read r = other_way (read_moves c s G F u g r (as_step t) h (λ e. d (sym e)))

    past_other : rivals s (self s u) (self s t) ≡ false → acquiring (kind_of (self s u)) ≡ true → Moves c s (as_step t) (as_step u)
    past_other x b =
        let q = acquire_only (kind_of (self s u)) b in
        let A : Apart c s t u = record { differ = d; locks = λ y z e. false≢true (sym x ∙ and_make (acquiring (kind_of (self s u))) _ b (and_make (acquiring (kind_of (self s t))) _ a (eq-eqb _ _ (sym e)))); lone = λ y z e. false≢true (sym k.0 ∙ y) } in
        unread A q.1 (acquires_meet c s t u W O A G.ordered k.2 q.2)

    past_sure : reading (kind_of (self s u)) ≡ false → acquiring (kind_of (self s u)) ≡ false → Moves c s (as_step t) (as_step u)
    past_sure r b =
        let S : SureCommit c s u = record { accepted = g; kinds = rw (r, b) refl } in
        let A = turned c s u t (Sure.apart c s u G S t h (λ e. d (sym e))) in
        unread A r (commits_meet c s t u W O A b)

    acquire_commit : rivals s (self s u) (self s t) ≡ false → Moves c s (as_step t) (as_step u)
    acquire_commit x =
        ⊎_elim past_read (λ r. ⊎_elim (past_other x) (past_sure r) (decide (acquiring (kind_of (self s u))))) (decide (reading (kind_of (self s u))))

  pub acquire_moves : (u : Step) → step_code c s u ≡ 0 → Elsewhere t.action u → wakes s u (taking t.action t.source) ≡ false
      → Moves c s (as_step t) u
  acquire_moves (issue q) g d x = commit_moves c s G t h q g
  acquire_moves (commit q j e) g d x = acquire_commit (the q j e) g d x
  acquire_moves neither g d x = absurd (neither_no c s g)

-- THE DIAMOND of issues: an accepted issue, and any other accepted step but an issue of its processor or of the last action that there is room for
module _ (c : Case) (s : State) (G : Good s) (p : ℕ) (h : step_code c s (issue p) ≡ 0) where
  pub issue_passes : (u : Step) → step_code c s u ≡ 0 → wakes s u (issuing p) ≡ false → Passes c s (issue p) u
  issue_passes (issue q) g x = let w = or_none (eqb p q) _ x in issues_pass c s G p q h g (eqb-false p q w.0) w.1
  issue_passes (commit q j e) g x = passes_of (other_way (commit_moves c s G (the q j e) g p h))
  issue_passes neither g x = absurd (neither_no c s g)

-- an accepted step is known by its key
pub record Keyed (s : State) (t : Step) : Type 0 where
  pub key : Key
  pub names : t ≡ step_by s key
  pub sleeps : (sp : Spent) → asleep sp t ≡ sp key

pub keyed : (c : Case) (s : State) (t : Step) → step_code c s t ≡ 0 → Keyed s t
keyed c s (issue p) h = record { key = issuing p; names = refl; sleeps = λ sp. refl }
keyed c s (commit p k e) h =
    record {
      key = taking k e;
      names = ap (λ (q : ℕ). commit q k e) (sym (waits_proc p (s.actions k) (can_commit c s p k e h).waits));
      sleeps = λ sp. refl;
    }
keyed c s neither h = absurd (neither_no c s h)

-- an action that u, taken at s, leaves in the queue
record Before (c : Case) (s : State) (u : Step) (k : ℕ) : Type 0 where
  idle : (s.actions k).result ≡ none
  other : Elsewhere k u
  same : (after c s u).actions k ≡ s.actions k

module _ (c : Case) (s : State) (G : Good s) (F : Firm s) where
  before : (u : Step) → step_code c s u ≡ 0 → (k : ℕ) → k < s.count → ((after c s u).actions k).result ≡ none → Before c s u k
  unfolding committed
  before (issue q) g k l w =
      let e = ap (λ (x : State). x.actions k) (after_issue c s q) ∙ issued_old c s q k l in
      record { idle = ap (λ (a : Action). a.result) (sym e) ∙ w; other = tt; same = e }
  before (commit q j f) g k l w =
      let u = the q j f in
      let x = was_queued c s G F u (can_take c s u g) k (subst (λ (x : State). (x.actions k).result ≡ none) (after-take c s u) w) in
      record { idle = x.1; other = x.0; same = ap (λ (x : State). x.actions k) (after-take c s u) ∙ put_other s.actions j k (settled_by c s u) x.0 }
  before neither g k l w = absurd (neither_no c s g)

  kind-same : (u : Step) → (k : ℕ) → k < s.count → restable (kind_of ((after c s u).actions k)) ≡ restable (kind_of (s.actions k))
  unfolding committed after
  kind-same (issue q) k l = ap (λ (a : Action). restable (kind_of a)) (issued_old c s q k l)
  kind-same (commit q j f) k l = committed_field c s (the q j f) (λ a. restable (kind_of a)) refl k
  kind-same neither k l = refl

  module _ (u : Step) (g : step_code c s u ≡ 0) where
    -- a spent step that is accepted after u
    record Left (a : Key) : Type 0 where
      fits : step_code c s (step_by s a) ≡ 0
      passes : Passes c s (step_by s a) u
      named : step_by s a ≡ step_by (after c s u) a

    left_commit : (k e : ℕ) → Rests c s k e → wakes s u (taking k e) ≡ false → ((after c s u).actions k).result ≡ none → Left (taking k e)
    left_commit k e R N w =
        let B = before u g k R.there w in
        let h = R.fits B.idle in
        let t = the (s.actions k).proc k e in
        record {
          fits = h;
          passes =
              passes_of
              (⊎_elim (λ r. read_moves c s G F t h r u g B.other) (λ a. acquire_moves c s G F t h a u g B.other N) (or_cases (reading (kind_of (s.actions k))) (acquiring (kind_of (s.actions k))) R.kinds));
          named = ap (λ (a : Action). commit a.proc k e) (sym B.same);
        }

    left_issue : (p : ℕ) → step_code c s (issue p) ≡ 0 → wakes s u (issuing p) ≡ false → Left (issuing p)
    left_issue p h N = record { fits = h; passes = issue_passes c s G p h u g N; named = refl }

    module _ (sp : Spent) (R : Rested c s sp) (N : (a : Key) → sp a ≡ true → wakes s u a ≡ false) where
      -- the invariant is kept by every step that wakes none of it
      pub rested_step : Rested c (after c s u) sp
      rested_step (taking k e) x =
          let Q = R (taking k e) x in
          record {
            there = omega (arith, Q.there, (count-after c s u).0);
            kinds = kind-same u k Q.there ∙ Q.kinds;
            fits = λ w. let L = left_commit k e Q (N (taking k e) x) w in subst (λ (t : Step). step_code c (after c s u) t ≡ 0) L.named L.passes.still;
          }
      rested_step (issuing p) x = (left_issue p (R (issuing p) x) (N (issuing p) x)).passes.still

      left : (a : Key) → sp a ≡ true → step_code c (after c s u) (step_by (after c s u) a) ≡ 0 → Left a
      left (taking k e) x h =
          left_commit k e (R (taking k e) x) (N (taking k e) x)
          (waits-none ((after c s u).actions k).proc ((after c s u).actions k) (can_commit c (after c s u) ((after c s u).actions k).proc k e h).waits)
      left (issuing p) x h = left_issue p (R (issuing p) x) (N (issuing p) x)

      -- a spent step after u moves to the front
      pub to_front : (P : State → ℕ → Type 0) → ((x : State) (n : ℕ) → step_code c x u ≡ 0 → P (after c x u) n → P x (suc n))
          → ((a b : State) (n : ℕ) → Alike a b → P a n → P b n) → (n : ℕ) → Else c sp P (after c s u) n → Through c sp (λ x. P x n) s
      to_front P later alike zero o = absurd o
      to_front P later alike (suc n) o =
          let L = left o.key o.rests o.fits in
          let t = step_by s o.key in
          record {
            key = o.key;
            rests = o.rests;
            fits = L.fits;
            then' =
                later (after c s t) n L.passes.fits
                (alike (after c (after c s u) t) (after c (after c s t) u) n L.passes.meets (subst (λ (t : Step). P (after c (after c s u) t) n) (sym L.named) o.then'));
          }

-- an accepted step that may be spent
pub resting : (c : Case) (s : State) (a : Key) → step_code c s (step_by s a) ≡ 0 → restful s a ≡ true → Resting c s a
resting c s (taking k e) h r = record { there = (can_commit c s (s.actions k).proc k e h).there; kinds = r; fits = λ q. h }
resting c s (issuing p) h r = h
