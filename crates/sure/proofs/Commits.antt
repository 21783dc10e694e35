-- Two commits in either order. Assumes nothing.
use mathlib.Core.Path.{◌≡◌, refl, sym, ◌∙◌, ap, ap₂, fun_ext}
use mathlib.Core.Logic.{◌⊎◌, inl, inr, ⊎_elim}
use mathlib.Core.Bool.{Bool, true, false, not, cond, ◌&&◌, false≢true}
use mathlib.Core.Option.{Option, none, some}
use Prim.Native.Nat.{ℕ, suc, ◌+◌, ◌-◌}
use lib.Dec.{eqb, ltb}
use borrow.Author.Tests.{ne_eqb}
use Rattle.words.specs.Small.{some_below, put, is}
use Rattle.words.proofs.Bools.{put_swap, or_left, below-same, put_other, or_right, and_right, decide, or_none}
use Rattle.cases.specs.declared.Instr.TheVariants.{Empty, Read, Write, Local, Branch, Goto, Acquire, Release}
use Rattle.cases.specs.declared.Instr.{Instr}
use Rattle.cases.specs.declared.Case.{Case}
use Rattle.rules.specs.Kinds.{kind, syncs, reading, releasing, writing, acquiring, branching, label_of}
use Rattle.rules.specs.Commit.{barred, visible, committed, writes}
use Rattle.rules.specs.State.{item_is, kind_of, State, Action, stands_at}
use Rattle.rules.specs.Order.{joined_if, Order}
use Rattle.rules.proofs.Closed.{Transitive}
use Rattle.rules.proofs.Orders.{joined_if-false, joined_if_swap}
use Rattle.rules.proofs.Accepted.{between, visible_make, Visible}
use Rattle.sure.proofs.Kept.{committed_field, Kept, kept_commit, waits-none, input_same, item_kept, carry, settled_same}
use Rattle.sure.proofs.Commit.{self, releases, committed_by, sees_take, Commit, input, settled_by, CanTake, result_by, item}

-- only an acquire and a release ask who holds a location
pub unbarred : (p : ℕ) (k : ℕ) (h : Option ℕ) → syncs k ≡ false → barred p k h ≡ false
unbarred p k h e = let w = or_none (acquiring k) (releasing k) e in rw (w.0, w.1) refl

pub acquire_syncs : (k : ℕ) → acquiring k ≡ true → syncs k ≡ true
acquire_syncs k h = or_left (acquiring k) (releasing k) h

pub release_syncs : (k : ℕ) → releasing k ≡ true → syncs k ≡ true
release_syncs k h = or_right (acquiring k) (releasing k) h

pub cond_put_swap : {A : Type 0} (a b : Bool) (f : ℕ → A) (i k : ℕ) (v w : A) → (a ≡ true → b ≡ true → i ≡ k → ⊥)
    → cond a (put (cond b (put f k w) f) i v) (cond b (put f k w) f) ≡ cond b (put (cond a (put f i v) f) k w) (cond a (put f i v) f)
cond_put_swap true true f i k v w d = put_swap f k i w v (λ e. d refl refl (sym e))
cond_put_swap true false f i k v w d = refl
cond_put_swap false true f i k v w d = refl
cond_put_swap false false f i k v w d = refl

-- the places and the holders after the commit of action a, of processor p and with x for its input 0
abbrev pub places_by : Action → ℕ → ℕ → (ℕ → Option ℕ) → ℕ → Option ℕ
places_by a p x f = cond (branching (kind_of a)) (put f p (some (cond (eqb x 0) (suc a.place) (label_of a.instr)))) f

abbrev pub holders_by : Action → ℕ → ℕ → (ℕ → Option ℕ) → ℕ → Option ℕ
holders_by a p x f = cond (syncs (kind_of a)) (put f x (cond (acquiring (kind_of a)) (some p) none)) f

-- the order of location l where item i of action a is put after the items P below n: at its commit, and at its issue
abbrev pub acquired : Case → ℕ → Action → Order → ℕ → ℕ → (ℕ → Bool) → Order
acquired c l a R i n P = joined_if (ltb l c.locs && acquiring (kind_of a)) R i n P

abbrev pub joins : Case → ℕ → Action → Order → ℕ → ℕ → (ℕ → Bool) → Order
joins c l a R i n P = joined_if (ltb l c.locs && stands_at l a) R i n P

-- a test of items that the commit does not change
pub item_test : (c : Case) (s : State) (t : Commit) (b : Bool) (f : Action → Bool) → f (settled_by c s t) ≡ f (self s t) → (e : ℕ)
    → item_is b f (committed_by c s t) e ≡ item_is b f s e
item_test c s t b f h e = ap (λ (x : Bool). cond (ltb e 8) b x) (committed_field c s t f h (e - 8))

release_result : (c : Case) (s : State) (t : Commit) (i : Instr) → releasing (kind i) ≡ true → result_by c s t i ≡ input s t 0
release_result c s t Empty h = absurd (false≢true h)
release_result c s t (Read d a) h = absurd (false≢true h)
release_result c s t (Write a b) h = absurd (false≢true h)
release_result c s t (Local d e) h = absurd (false≢true h)
release_result c s t (Branch a l) h = absurd (false≢true h)
release_result c s t (Goto l) h = absurd (false≢true h)
release_result c s t (Acquire a) h = absurd (false≢true h)
release_result c s t (Release a) h = refl

-- t and u, both accepted at s, have no held location and no place counter in common
pub record Apart (c : Case) (s : State) (t u : Commit) : Type 0 where
  pub differ : t.action ≡ u.action → ⊥
  pub locks : syncs (kind_of (self s t)) ≡ true → syncs (kind_of (self s u)) ≡ true → input s t 0 ≡ input s u 0 → ⊥
  pub lone : branching (kind_of (self s t)) ≡ true → branching (kind_of (self s u)) ≡ true → t.proc ≡ u.proc → ⊥

pub turned : (c : Case) (s : State) (t u : Commit) → Apart c s t u → Apart c s u t
turned c s t u a = record { differ = λ e. a.differ (sym e); locks = λ p q e. a.locks q p (sym e); lone = λ p q e. a.lone q p (sym e) }

module _ (c : Case) (s : State) (t u : Commit) (T : CanTake c s t) (U : CanTake c s u) (A : Apart c s t u) where
  -- t after u
  pub kept : Kept s (committed_by c s u) t.action
  kept = kept_commit c s u t.action U A.differ

  holders_after : syncs (kind_of (self s t)) ≡ true → (committed_by c s u).holders (input s t 0) ≡ s.holders (input s t 0)
  unfolding committed
  holders_after e = step (syncs (kind_of (self s u))) refl
    where
      step : (b : Bool) → syncs (kind_of (self s u)) ≡ b
          → cond b (put s.holders (input s u 0) (cond (acquiring (kind_of (self s u))) (some u.proc) none)) s.holders (input s t 0) ≡ s.holders (input s t 0)
      step true q = put_other s.holders (input s u 0) (input s t 0) _ (A.locks e q)
      step false q = refl

  allowed_after : barred t.proc (kind_of (self s t)) ((committed_by c s u).holders (input s t 0)) ≡ false
  allowed_after =
      ⊎_elim (λ e. rw (holders_after e) T.allowed)
      (unbarred t.proc (kind_of (self s t)) ((committed_by c s u).holders (input s t 0)))
      (decide (syncs (kind_of (self s t))))

  writes-after : (l e : ℕ) → writes (committed_by c s u) l e ≡ writes s l e
  writes-after l e = item_test c s u (eqb e l) (λ a. writing (kind_of a) && eqb a.loc l) refl e

  released-after : (m : ℕ) → (releasing (kind_of (self s u)) ≡ true → m ≡ input s u 0 → ⊥) → (e : ℕ)
      → releases (committed_by c s u) m e ≡ releases s m e
  released-after m d e = item_test c s u false (λ a. releasing (kind_of a) && is m a.result) (step (decide (releasing (kind_of (self s u))))) e
    where
      step : (releasing (kind_of (self s u)) ≡ true) ⊎ (releasing (kind_of (self s u)) ≡ false)
          → (releasing (kind_of (self s u)) && eqb (result_by c s u (self s u).instr) m) ≡ (releasing (kind_of (self s u)) && is m (self s u).result)
      step (inl q) = rw (q, waits-none u.proc (self s u) U.waits) (ne_eqb _ m λ x. d q (sym x ∙ release_result c s u (self s u).instr q))
      step (inr q) = rw q

  -- t is no read
  pub unread_after : reading (kind_of (self s t)) ≡ false → CanTake c (committed_by c s u) t
  unread_after r = carry c s (committed_by c s u) t kept T allowed_after (rw r)

  -- u is no acquire: it leaves each order as it is
  module _ (plain : acquiring (kind_of (self s u)) ≡ false) where
    pub orders_kept : (l : ℕ) → (committed_by c s u).orders l ≡ s.orders l
    unfolding committed
    orders_kept l = joined_if-false _ _ _ _ _ (and_right (ltb l c.locs) _ plain)

    between_kept : (l i e w : ℕ) → between (committed_by c s u) l i e w ≡ between s l i e w
    between_kept l i e w = ap₂ (λ (b : Bool) (R : Order). b && (R e w && R w i)) (writes-after l w) (orders_kept l)

    newest-kept : (l i e : ℕ) → some_below (8 + s.count) (between s l i e) ≡ false
        → some_below (8 + (committed_by c s u).count) (between (committed_by c s u) l i e) ≡ false
    unfolding committed
    newest-kept l i e h = below-same (8 + s.count) (between (committed_by c s u) l i e) (between s l i e) (λ w z. between_kept l i e w) ∙ h

    visible-kept : (l i e : ℕ) → Visible c s l i e → Visible c (committed_by c s u) l i e
    visible-kept l i e v =
        record {
          one = writes-after l e ∙ v.one;
          known = rw (item_kept c s (committed_by c s u) t kept T e v.known) v.known;
          newest = newest-kept l i e v.newest;
          before = rw (orders_kept l) v.before;
        }

    pub can_after : CanTake c (committed_by c s u) t
    can_after = carry c s (committed_by c s u) t kept T allowed_after (sees (decide (reading (kind_of (self s t)))))
      where
        sees : (reading (kind_of (self s t)) ≡ true) ⊎ (reading (kind_of (self s t)) ≡ false)
            → (reading (kind_of (self s t)) && not (visible c (committed_by c s u) (self s t).loc (item t) t.source)) ≡ false
        sees (inl r) = rw (r, visible_make c (committed_by c s u) (self s t).loc (item t) t.source (visible-kept _ _ _ (sees_take c s t T r))) refl
        sees (inr r) = rw r

-- u is no acquire, so the two orders of committing meet
module _ (c : Case) (s : State) (t u : Commit) (T : CanTake c s t) (U : CanTake c s u) (A : Apart c s t u) where
  -- what a step leaves of the other
  K : Kept s (committed_by c s u) t.action
  K = kept c s t u T U A

  L : Kept s (committed_by c s t) u.action
  L = kept c s u t U T (turned c s t u A)

  same_actions : (committed_by c (committed_by c s u) t).actions ≡ (committed_by c (committed_by c s t) u).actions
  unfolding committed
  same_actions =
      ap (λ (a : Action). put (put s.actions u.action (settled_by c s u)) t.action a) (settled_same c s (committed_by c s u) t K T)
      ∙ put_swap s.actions u.action t.action (settled_by c s u) (settled_by c s t) (λ e. A.differ (sym e))
      ∙ ap (λ (a : Action). put (put s.actions t.action (settled_by c s t)) u.action a) (sym (settled_same c s (committed_by c s t) u L U))

  same-places : (committed_by c (committed_by c s u) t).places ≡ (committed_by c (committed_by c s t) u).places
  unfolding committed
  same-places =
      ap₂ (λ (a : Action) (x : ℕ). places_by a t.proc x (committed_by c s u).places) K.same (input_same c s (committed_by c s u) t K T 0)
      ∙ cond_put_swap _ _ s.places t.proc u.proc _ _ A.lone
      ∙ sym (ap₂ (λ (a : Action) (x : ℕ). places_by a u.proc x (committed_by c s t).places) L.same (input_same c s (committed_by c s t) u L U 0))

  same_holders : (committed_by c (committed_by c s u) t).holders ≡ (committed_by c (committed_by c s t) u).holders
  unfolding committed
  same_holders =
      ap₂ (λ (a : Action) (x : ℕ). holders_by a t.proc x (committed_by c s u).holders) K.same (input_same c s (committed_by c s u) t K T 0)
      ∙ cond_put_swap _ _ s.holders (input s t 0) (input s u 0) _ _ A.locks
      ∙ sym (ap₂ (λ (a : Action) (x : ℕ). holders_by a u.proc x (committed_by c s t).holders) L.same (input_same c s (committed_by c s t) u L U 0))

  same_orders : acquiring (kind_of (self s u)) ≡ false → (l : ℕ)
      → (committed_by c (committed_by c s u) t).orders l ≡ (committed_by c (committed_by c s t) u).orders l
  unfolding committed
  same_orders plain l =
      ap₂ (λ (a : Action) (x : ℕ). acquired c l a ((committed_by c s u).orders l) (item t) (8 + s.count) (releases (committed_by c s u) x)) K.same (input_same c s (committed_by c s u) t K T 0)
      ∙ ap
      (λ (R : Order). acquired c l (self s t) R (item t) (8 + s.count) (releases (committed_by c s u) (input s t 0)))
      (orders_kept c s t u T U A plain l)
      ∙ step (decide (acquiring (kind_of (self s t))))
      ∙ sym (joined_if-false _ _ _ _ _ (and_right (ltb l c.locs) _ (ap (λ (a : Action). acquiring (kind_of a)) L.same ∙ plain)))
    where
      step : (acquiring (kind_of (self s t)) ≡ true) ⊎ (acquiring (kind_of (self s t)) ≡ false)
          → acquired c l (self s t) (s.orders l) (item t) (8 + s.count) (releases (committed_by c s u) (input s t 0)) ≡ acquired c l (self s t) (s.orders l) (item t) (8 + s.count) (releases s (input s t 0))
      step (inl q) =
          ap
          (acquired c l (self s t) (s.orders l) (item t) (8 + s.count))
          (fun_ext (released-after c s t u T U A (input s t 0) (λ r e. A.locks (acquire_syncs (kind_of (self s t)) q) (release_syncs (kind_of (self s u)) r) e)))
      step (inr q) = joined_if-false _ _ _ _ _ (and_right (ltb l c.locs) _ q) ∙ sym (joined_if-false _ _ _ _ _ (and_right (ltb l c.locs) _ q))

  -- two acquires
  both_orders : ((l : ℕ) → Transitive (s.orders l)) → releasing (kind_of (self s t)) ≡ false → releasing (kind_of (self s u)) ≡ false → (l : ℕ)
      → (committed_by c (committed_by c s u) t).orders l ≡ (committed_by c (committed_by c s t) u).orders l
  unfolding committed
  both_orders tr nt nu l =
      ap₂ (λ (a : Action) (x : ℕ). acquired c l a ((committed_by c s u).orders l) (item t) (8 + s.count) (releases (committed_by c s u) x)) K.same (input_same c s (committed_by c s u) t K T 0)
      ∙ ap
      (acquired c l (self s t) ((committed_by c s u).orders l) (item t) (8 + s.count))
      (fun_ext (released-after c s t u T U A (input s t 0) (λ r. absurd (false≢true (sym nu ∙ r)))))
      ∙ joined_if_swap (ltb l c.locs && acquiring (kind_of (self s u))) (ltb l c.locs && acquiring (kind_of (self s t))) (s.orders l) (item u)
      (8 + s.count) (releases s (input s u 0)) (item t) (8 + s.count)
      (releases s (input s t 0)) (tr l)
      ∙ ap
      (acquired c l (self s u) ((committed_by c s t).orders l) (item u) (8 + s.count))
      (sym (fun_ext (released-after c s u t U T (turned c s t u A) (input s u 0) (λ r. absurd (false≢true (sym nt ∙ r))))))
      ∙ sym
      (ap₂ (λ (a : Action) (x : ℕ). acquired c l a ((committed_by c s t).orders l) (item u) (8 + s.count) (releases (committed_by c s t) x)) L.same (input_same c s (committed_by c s t) u L U 0))

  meet : ((l : ℕ) → (committed_by c (committed_by c s u) t).orders l ≡ (committed_by c (committed_by c s t) u).orders l)
      → committed_by c (committed_by c s u) t ≡ committed_by c (committed_by c s t) u
  unfolding committed
  meet orders = λ i. record {
    count = s.count;
    actions = same_actions i;
    places = same-places i;
    names = s.names;
    holders = same_holders i;
    orders = fun_ext orders i;
  }

  pub commits_meet : acquiring (kind_of (self s u)) ≡ false → committed_by c (committed_by c s u) t ≡ committed_by c (committed_by c s t) u
  commits_meet plain = meet (same_orders plain)

  pub acquires_meet : ((l : ℕ) → Transitive (s.orders l)) → releasing (kind_of (self s t)) ≡ false → releasing (kind_of (self s u)) ≡ false
      → committed_by c (committed_by c s u) t ≡ committed_by c (committed_by c s t) u
  acquires_meet tr nt nu = meet (both_orders tr nt nu)
