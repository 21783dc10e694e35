-- After every accepted schedule the ends of an edge are items of its location, and what an acquire holds back has not passed it. Assumes nothing.
use mathlib.Core.Path.{◌≡◌, refl, sym, ◌∙◌, ap, subst}
use mathlib.Core.Logic.{inl, inr, ⊎_elim}
use mathlib.Core.Bool.{Bool, true, false, ◌&&◌, ◌||◌, false≢true}
use Prim.Native.Nat.{ℕ, ◌+◌, ◌<◌}
use native.Mathlib.Omega.{arith}
use lib.Dec.{eqb, ltb}
use borrow.Author.Tests.{eq-eqb}
use Rattle.words.specs.Small.{is_none, is}
use Rattle.words.proofs.Bools.{decide, and_both, and_make, or_left, or_right, or_cases, below_make}
use Rattle.cases.specs.declared.Case.{Case}
use Rattle.rules.specs.Kinds.{reading, writing, computing, jumping, acquiring, releasing, accesses, syncs, held_by}
use Rattle.rules.specs.State.{State, Action, initial, kind_of, waiting, stands_at}
use Rattle.rules.specs.Issue.{new_action, earlier, issued}
use Rattle.rules.specs.Commit.{input, held_back, released, committed}
use Rattle.rules.proofs.Closed.{UpTo, Via}
use Rattle.rules.proofs.Accepted.{CanCommit}
use Rattle.rules.proofs.Actions.{either, waits_proc, issued_old, issued_new, issued_count, committed_other, committed_count, item_cases}
use Rattle.rules.proofs.Sources.{Unset}
use Rattle.rules.proofs.Strict.{owner, Done}
use Rattle.progress.proofs.Rooted.{bare}
use Rattle.oneorder.specs.OneOrder.{has_item}
use Rattle.oneorder.proofs.Items.{joined_if_ways}
use Rattle.sequential.proofs.Kept.{Kept, kept_issue, kept_commit}

-- what stands at a location has an item
pub stands_has : (l : ℕ) (a : Action) → stands_at l a ≡ true → has_item a ≡ true
stands_has l a h = ⊎_elim (λ q. or_left (syncs (kind_of a)) (accesses (kind_of a)) q) (λ q. or_right (syncs (kind_of a)) (accesses (kind_of a)) (and_both (accesses (kind_of a)) (eqb a.loc l) q).0) (or_cases (syncs (kind_of a)) (accesses (kind_of a) && eqb a.loc l) h)

-- the table: an acquire holds back whatever has an item
acquire_holds : (k q : ℕ) (b : Bool) → (syncs k || accesses k) ≡ true → acquiring q ≡ true → held_by k q b ≡ true
unfolding held_by
acquire_holds k q b h a = step (reading k) (writing k) (acquiring k) (releasing k) h
  where
    step : (r w x y : Bool) → ((x || y) || (r || w)) ≡ true → (((r && (acquiring q || (writing q && b))) || ((w || computing k || jumping k) && acquiring q)) || (x && (acquiring q || releasing q)) || y) ≡ true
    step true w x y e = rw a
    step false true x y e = rw a
    step false false true y e = rw a (or_left (((computing k || jumping k) && true) || true) y (or_right ((computing k || jumping k) && true) true refl))
    step false false false true e = or_right (((computing k || jumping k) && acquiring q) || false) true refl
    step false false false false e = absurd (false≢true e)

-- an accepted commit waits for no earlier action of its processor that the table names
pub not-held : (c : Case) (s : State) (p k e j : ℕ) → CanCommit c s p k e → j < k → owner s j ≡ p → held_by (kind_of (s.actions k)) (kind_of (s.actions j)) (eqb (s.actions j).loc (s.actions k).loc) ≡ true → Done s j
not-held c s p k e j T l o h = ⊎_elim (λ q. absurd (false≢true (sym T.free ∙ held q))) (λ q. q) (decide (is_none (s.actions j).result))
  where
    held : is_none (s.actions j).result ≡ true → held_back c s p k e ≡ true
    held q = below_make k _ j l (and_make (waiting p (s.actions j)) _ (and_make (eqb (owner s j) p) _ (eq-eqb _ _ o) q) h)

-- the item is that of an action issued, which stands at l
abbrev pub Stands : State → ℕ → ℕ → Type 0
Stands s l e = (j : ℕ) → e ≡ 8 + j → (j < s.count) × (stands_at l (s.actions j) ≡ true)

pub record Items (s : State) : Type 0 where
  -- what has an item is committed after the acquires before it
  pub waits : (j k : ℕ) → j < k → k < s.count → owner s j ≡ owner s k → acquiring (kind_of (s.actions j)) ≡ true → has_item (s.actions k) ≡ true → Done s k → Done s j
  pub stands : (l a b : ℕ) → s.orders l a b ≡ true → Stands s l a × Stands s l b

pub items_initial : (c : Case) → Items (initial c)
items_initial c = record { waits = λ j k h g. absurd (omega arith); stands = λ l a b h. absurd (false≢true h) }

-- what grows keeps
module _ (s z : State) (g : Kept s z) where
  stands_kept : (l e : ℕ) → Stands s l e → Stands z l e
  stands_kept l e h j q = let r = h j q in (omega (arith, r.0, g.more), ap (stands_at l) (g.same j r.0) ∙ r.1)

-- the ends of an edge that goes over item i
module _ (s z : State) (g : Kept s z) (I : Items s) (l i n : ℕ) (P : ℕ → Bool) (low : (e : ℕ) → e < n → P e ≡ true → Stands z l e) (at : Stands z l i) where
  via_ends : (a b : ℕ) → Via (s.orders l) i n P a b → Stands z l a × Stands z l b
  via_ends a b v = (up v.up, down v.down)
    where
      up : UpTo (s.orders l) a v.from → Stands z l a
      up (inl q) = subst (Stands z l) (sym q) (low v.from v.low v.one)
      up (inr q) = stands_kept s z g l a (I.stands l a v.from q).0

      down : UpTo (s.orders l) i b → Stands z l b
      down (inl q) = subst (Stands z l) q at
      down (inr q) = stands_kept s z g l b (I.stands l i b q).1

module _ (c : Case) (s : State) (p : ℕ) (u : Unset s) (I : Items s) where
  g_issue : Kept s (issued c s p)
  g_issue = kept_issue c s p u

  new_stands : (l : ℕ) → stands_at l (new_action c s p) ≡ true → Stands (issued c s p) l (8 + s.count)
  new_stands l h j q = let e : j ≡ s.count = omega arith in (omega (arith, issued_count c s p), ap (λ (i : ℕ). stands_at l ((issued c s p).actions i)) e ∙ ap (stands_at l) (issued_new c s p) ∙ h)

  earlier_stands : (l e : ℕ) → e < 8 + s.count → earlier c s p l e ≡ true → Stands (issued c s p) l e
  earlier_stands l e h q = ⊎_elim (λ w j x. absurd (omega (arith, w.0))) (λ w. stands_kept s (issued c s p) g_issue l e (λ j x. let y : j ≡ w.0 = omega (arith, w.1) in (omega arith, ap (λ (i : ℕ). stands_at l (s.actions i)) y ∙ (and_both (eqb (owner s w.0) p) _ w.2).1))) (item_cases (eqb e l) (λ a. eqb a.proc p && stands_at l a) s e q)

  stands_issue : (l a b : ℕ) → (issued c s p).orders l a b ≡ true → Stands (issued c s p) l a × Stands (issued c s p) l b
  unfolding issued
  stands_issue l a b h =
      ⊎_elim (λ q. let w = I.stands l a b q in (stands_kept s (issued c s p) g_issue l a w.0, stands_kept s (issued c s p) g_issue l b w.1))
      (λ q. via_ends s (issued c s p) g_issue I l (8 + s.count) (8 + s.count) (earlier c s p l) (earlier_stands l) (new_stands l (and_both (ltb l c.locs) _ q.0).1) a b q.1)
      (joined_if_ways (ltb l c.locs && stands_at l (new_action c s p)) (s.orders l) (8 + s.count) (8 + s.count) (earlier c s p l) a b h)

  waits_issue : (j k : ℕ) → j < k → k < (issued c s p).count → owner (issued c s p) j ≡ owner (issued c s p) k → acquiring (kind_of ((issued c s p).actions j)) ≡ true → has_item ((issued c s p).actions k) ≡ true → Done (issued c s p) k → Done (issued c s p) j
  waits_issue j k h g o a i d = either k s.count (λ q. absurd (false≢true (sym d ∙ ap (λ (m : ℕ). is_none ((issued c s p).actions m).result) q ∙ ap (λ (x : Action). is_none x.result) (issued_new c s p)))) old
    where
      old : (k ≡ s.count → ⊥) → Done (issued c s p) j
      old n =
          let lk : k < s.count = omega (arith, issued_count c s p) in
          let ek = issued_old c s p k n in
          let ej = issued_old c s p j (λ q. omega arith) in
          ap (λ (x : Action). is_none x.result) ej
          ∙ I.waits j k h lk (sym (ap (λ (x : Action). x.proc) ej) ∙ o ∙ ap (λ (x : Action). x.proc) ek) (sym (ap (λ (x : Action). acquiring (kind_of x)) ej) ∙ a) (sym (ap has_item ek) ∙ i) (sym (ap (λ (x : Action). is_none x.result) ek) ∙ d)

  pub items_issue : Items (issued c s p)
  items_issue = record { waits = waits_issue; stands = stands_issue }

module _ (c : Case) (s : State) (p k e : ℕ) (T : CanCommit c s p k e) (I : Items s) where
  g_commit : Kept s (committed c s p k e)
  g_commit = kept_commit c s p k e T

  self_stands : (l : ℕ) → acquiring (kind_of (s.actions k)) ≡ true → Stands (committed c s p k e) l (8 + k)
  self_stands l a = stands_kept s (committed c s p k e) g_commit l (8 + k) (λ j q. let y : j ≡ k = omega arith in (omega (arith, T.there), ap (λ (i : ℕ). stands_at l (s.actions i)) y ∙ or_left (syncs (kind_of (s.actions k))) _ (or_left (acquiring (kind_of (s.actions k))) _ a)))

  released_stands : (l x : ℕ) → x < 8 + s.count → released c s p k e (input c s p k e 0) x ≡ true → Stands (committed c s p k e) l x
  released_stands l x h q =
      stands_kept s (committed c s p k e) g_commit l x
      (⊎_elim (λ w j y. absurd (omega (arith, w.0))) (λ w j y. let z : j ≡ w.0 = omega (arith, w.1) in (omega arith, ap (λ (i : ℕ). stands_at l (s.actions i)) z ∙ or_left (syncs (kind_of (s.actions w.0))) _ (or_right (acquiring (kind_of (s.actions w.0))) _ (and_both (releasing (kind_of (s.actions w.0))) _ w.2).0))) (item_cases false (λ a. releasing (kind_of a) && is (input c s p k e 0) a.result) s x q))

  stands_commit : (l a b : ℕ) → (committed c s p k e).orders l a b ≡ true → Stands (committed c s p k e) l a × Stands (committed c s p k e) l b
  unfolding committed
  stands_commit l a b h =
      ⊎_elim (λ q. let w = I.stands l a b q in (stands_kept s (committed c s p k e) g_commit l a w.0, stands_kept s (committed c s p k e) g_commit l b w.1))
      (λ q. via_ends s (committed c s p k e) g_commit I l (8 + k) (8 + s.count) (released c s p k e (input c s p k e 0)) (released_stands l) (self_stands l (and_both (ltb l c.locs) _ q.0).1) a b q.1)
      (joined_if_ways (ltb l c.locs && acquiring (kind_of (s.actions k))) (s.orders l) (8 + k) (8 + s.count) (released c s p k e (input c s p k e 0)) a b h)

  waits_commit : (j m : ℕ) → j < m → m < (committed c s p k e).count → owner (committed c s p k e) j ≡ owner (committed c s p k e) m → acquiring (kind_of ((committed c s p k e).actions j)) ≡ true → has_item ((committed c s p k e).actions m) ≡ true → Done (committed c s p k e) m → Done (committed c s p k e) j
  waits_commit j m h g o a i d =
      let y : Done s j = either m k now before in
      ap is_none (g_commit.done j y) ∙ y
    where
      lm : m < s.count
      lm = omega (arith, committed_count c s p k e)

      by : {A : Type 0} (f : Action → A) (x : ℕ) → x < s.count → f (bare ((committed c s p k e).actions x)) ≡ f (bare (s.actions x))
      by f x l = ap f (g_commit.same x l)

      acq : acquiring (kind_of (s.actions j)) ≡ true
      acq = sym (by (λ x. acquiring (kind_of x)) j (omega (arith, lm))) ∙ a

      item : has_item (s.actions m) ≡ true
      item = sym (by has_item m lm) ∙ i

      own : owner s j ≡ owner s m
      own = sym (by (λ x. x.proc) j (omega (arith, lm))) ∙ o ∙ by (λ x. x.proc) m lm

      now : m ≡ k → Done s j
      now q = not-held c s p k e j T (omega arith) (own ∙ ap (owner s) q ∙ waits_proc p (s.actions k) T.waits) (acquire_holds (kind_of (s.actions k)) (kind_of (s.actions j)) _ (ap (λ (x : ℕ). has_item (s.actions x)) (sym q) ∙ item) acq)

      before : (m ≡ k → ⊥) → Done s j
      before n = I.waits j m h lm own acq item (sym (ap (λ (x : Action). is_none x.result) (committed_other c s p k e m n)) ∙ d)

  pub items_commit : Items (committed c s p k e)
  items_commit = record { waits = waits_commit; stands = stands_commit }
