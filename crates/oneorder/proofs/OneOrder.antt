-- One order over all items gives the same replay as one for each location. Assumes nothing.
use mathlib.Core.Path.{◌≡◌, refl, sym, ◌∙◌, ap, subst}
use mathlib.Core.Logic.{◌⊎◌, inl, inr, ⊎_elim, ◌↔◌}
use mathlib.Core.Bool.{Bool, true, false, ◌&&◌, false≢true}
use mathlib.Core.List.{List, [], ◌∷◌}
use Prim.Native.Nat.{ℕ, zero, suc, ◌+◌, ◌≤◌, ◌<◌}
use native.Mathlib.Omega.{arith}
use lib.Dec.{eqb, ltb}
use borrow.Author.Tests.{eqb-true, eq-eqb, lt-ltb, le-ltb}
use Rattle.words.proofs.Bools.{and_both, and_make, and_right, or_cases, or_left, or_right, bool_eq, cond-true, cond-false}
use Rattle.cases.specs.declared.Case.{Case}
use Rattle.runs.specs.Replay.{Replay, resumed, replay}
use Rattle.runs.specs.Outcome.{Outcome, Cut}
use Rattle.rules.specs.Kinds.{acquiring, accesses, syncs}
use Rattle.rules.specs.Order.{Order, joined_if}
use Rattle.rules.specs.State.{State, Action, initial, kind_of, stands_at}
use Rattle.rules.specs.Issue.{new_action, earlier, issued}
use Rattle.rules.specs.Commit.{input, released, committed}
use Rattle.rules.specs.Step.{Step, issue, commit, neither, step_code, after}
use Rattle.rules.specs.Result.{finished, registers}
use Rattle.rules.specs.Womm.{womm}
use Rattle.rules.proofs.Closed.{UpTo, Via, joined_if_keeps}
use Rattle.rules.proofs.Accepted.{CanCommit, can_commit, neither_no}
use Rattle.rules.proofs.Actions.{issued_new, issued_count, committed_count, committed_keeps, item_cases}
use Rattle.oneorder.specs.OneOrder.{OneState, stands_in, limited, view, with_order, has_item, earlier_one, issued_one, committed_one, initial_one, after_one, womm_one}
use Rattle.oneorder.proofs.Viewed.{view_path}
use Rattle.oneorder.proofs.Items.{item_at, item_start, split, released_cases, issued_kept, joined_if_ways, joined_if_via}

-- an item of an action, or an initial write

pub stands_at_lem : (A : ℕ → Action) (l j : ℕ) → stands_in A l (8 + j) ≡ stands_at l (A j)
stands_at_lem A l j = cond-false (ltb (8 + j) 8) (eqb (8 + j) l) _ (le-ltb (8 + j) 8 (omega arith)) ∙ ap (λ (k : ℕ). stands_at l (A k)) (omega arith)

pub stands_initial : (A : ℕ → Action) (l e : ℕ) → e < 8 → stands_in A l e ≡ eqb e l
stands_initial A l e h = cond-true (ltb e 8) (eqb e l) _ (lt-ltb e 8 h)

pub stands_item : (l : ℕ) (a : Action) → stands_at l a ≡ true → has_item a ≡ true
stands_item l a h = ⊎_elim (λ q. or_left (syncs (kind_of a)) (accesses (kind_of a)) q) (λ q. or_right (syncs (kind_of a)) (accesses (kind_of a)) (and_both (accesses (kind_of a)) (eqb a.loc l) q).0) (or_cases (syncs (kind_of a)) (accesses (kind_of a) && eqb a.loc l) h)

sync_stands : (l : ℕ) (a : Action) → syncs (kind_of a) ≡ true → stands_at l a ≡ true
sync_stands l a h = or_left (syncs (kind_of a)) (accesses (kind_of a) && eqb a.loc l) h

limited_cases : (A : ℕ → Action) (l : ℕ) (R : Order) (a b : ℕ) → limited A l R a b ≡ true → (stands_in A l a ≡ true) × (stands_in A l b ≡ true) × (R a b ≡ true)
limited_cases A l R a b h = let x = and_both (stands_in A l a && stands_in A l b) (R a b) h in let y = and_both (stands_in A l a) (stands_in A l b) x.0 in (y.0, y.1, x.1)

limited_make : (A : ℕ → Action) (l : ℕ) (R : Order) (a b : ℕ) → stands_in A l a ≡ true → stands_in A l b ≡ true → R a b ≡ true → limited A l R a b ≡ true
limited_make A l R a b x y z = and_make _ _ (and_make _ _ x y) z

module _ (A : ℕ → Action) (l : ℕ) (R : Order) (a b : ℕ) where
  -- up to an item that stands at l, from one that does
  up_limited : stands_in A l a ≡ true → stands_in A l b ≡ true → UpTo R a b → UpTo (limited A l R) a b
  up_limited x y (inl e) = inl e
  up_limited x y (inr h) = inr (limited_make A l R a b x y h)

  limited_up : UpTo (limited A l R) a b → UpTo R a b
  limited_up (inl e) = inl e
  limited_up (inr h) = inr (limited_cases A l R a b h).2

  stands_up : stands_in A l b ≡ true → UpTo (limited A l R) a b → stands_in A l a ≡ true
  stands_up y (inl e) = ap (stands_in A l) e ∙ y
  stands_up y (inr h) = (limited_cases A l R a b h).0

  stands_down : stands_in A l a ≡ true → UpTo (limited A l R) a b → stands_in A l b ≡ true
  stands_down y (inl e) = ap (stands_in A l) (sym e) ∙ y
  stands_down y (inr h) = (limited_cases A l R a b h).1

-- orders that are the same are so where a test passes, and elsewhere there is none
tested_same : (x y : Bool) (Q R : Order) (i n : ℕ) (P : ℕ → Bool) (a b : ℕ) → Q a b ≡ joined_if y R i n P a b → (x && Q a b) ≡ joined_if (x && y) (λ u v. x && R u v) i n P a b
unfolding joined_if
tested_same true y Q R i n P a b h = h
tested_same false y Q R i n P a b h = refl

-- j comes to stand before m, of another processor, by an acquire or release y of m's processor
pub record Entry (s : OneState) (j m : ℕ) : Type 0 where
  pub at : ℕ
  pub low : at < s.count
  pub own : (s.actions at).proc ≡ (s.actions m).proc
  pub sync : syncs (kind_of (s.actions at)) ≡ true
  pub edge : s.order (8 + j) (8 + at) ≡ true

pub record One (s : OneState) : Type 0 where
  pub low : (a b : ℕ) → s.order a b ≡ true → a < 8 + s.count
  pub target : (a b : ℕ) → s.order a b ≡ true → (8 ≤ b) × (b < 8 + s.count)
  pub entry : (j m : ℕ) → s.order (8 + j) (8 + m) ≡ true → ((s.actions j).proc ≡ (s.actions m).proc) ⊎ Entry s j m

-- issue
module _ (c : Case) (s : OneState) (p : ℕ) (v : One s) where
  abbrev S : State
  S = view c s

  abbrev new : Action
  new = new_action c (view c s) p

  abbrev A : ℕ → Action
  A = s.actions

  abbrev A' : ℕ → Action
  A' = (issued c (view c s) p).actions

  -- the items there were stand where they stood
  stands_old : (l e : ℕ) → e < 8 + s.count → stands_in A' l e ≡ stands_in A l e
  stands_old l e h = ⊎_elim (λ q. stands_initial A' l e q ∙ sym (stands_initial A l e q)) (λ q. ap (stands_in A' l) q.1 ∙ stands_at_lem A' l q.0 ∙ ap (stands_at l) (issued_kept c (view c s) p q.0 (omega (arith, q.1))) ∙ sym (stands_at_lem A l q.0) ∙ ap (stands_in A l) (sym q.1)) (split e)

  stands_new : (l : ℕ) → stands_in A' l (8 + s.count) ≡ stands_at l new
  stands_new l = stands_at_lem A' l s.count ∙ ap (stands_at l) (issued_new c (view c s) p)

  -- nothing stands after the new item yet
  last : (b : ℕ) → UpTo s.order (8 + s.count) b → b ≡ 8 + s.count
  last b (inl e) = sym e
  last b (inr e) = absurd (omega (arith, v.low (8 + s.count) b e))

  -- the new item comes after a by the one order, so also by the order of l
  into_l : (l a : ℕ) → stands_in A l a ≡ true → a < 8 + s.count → (x : ℕ) → x < 8 + s.count → earlier_one c s p x ≡ true → UpTo s.order a x → Via (limited A l s.order) (8 + s.count) (8 + s.count) (earlier c S p l) a (8 + s.count)
  into_l l a st la x lx h up = from_item (item_cases (stands_at x new) (λ z. eqb z.proc p && has_item z) S x h)
    where
      Goal : Type 0
      Goal = Via (limited A l s.order) (8 + s.count) (8 + s.count) (earlier c S p l) a (8 + s.count)

      -- a itself is an earlier item of the order of l
      itself : earlier c S p l a ≡ true → Goal
      itself e = record { from = a; low = la; one = e; up = inl refl; down = inl refl }

      -- the initial write of l
      start : a < 8 → Goal
      start q = itself (item_start (eqb a l) (λ z. eqb z.proc p && stands_at l z) S a q ∙ sym (stands_initial A l a q) ∙ st)

      at : (j : ℕ) → a ≡ 8 + j → (A j).proc ≡ p → Goal
      at j e o = itself (ap (earlier c S p l) e ∙ item_at (eqb (8 + j) l) (λ z. eqb z.proc p && stands_at l z) S j ∙ and_make _ _ (eq-eqb _ _ o) (sym (stands_at_lem A l j) ∙ ap (stands_in A l) (sym e) ∙ st))

      through : (j m : ℕ) → a ≡ 8 + j → (A m).proc ≡ p → Entry s j m → Goal
      through j m e o y =
          let sy = sync_stands l (A y.at) y.sync in
          record {
            from = 8 + y.at;
            low = omega (arith, y.low);
            one = item_at (eqb (8 + y.at) l) (λ z. eqb z.proc p && stands_at l z) S y.at ∙ and_make _ _ (eq-eqb _ _ (y.own ∙ o)) sy;
            up = inr (limited_make A l s.order a (8 + y.at) st (stands_at_lem A l y.at ∙ sy) (subst (λ (z : ℕ). s.order z (8 + y.at) ≡ true) (sym e) y.edge));
            down = inl refl;
          }

      from_item : ((x < 8) × (stands_at x new ≡ true)) ⊎ ((m : ℕ) × (x ≡ 8 + m) × ((eqb (A m).proc p && has_item (A m)) ≡ true)) → Goal
      from_item (inl q) = initially up
        where
          initially : UpTo s.order a x → Goal
          initially (inl e) = start (omega (arith, q.0))
          initially (inr e) = absurd (omega (arith, q.0, (v.target a x e).0))
      from_item (inr (m, e, q)) = ⊎_elim start (λ z. act z.0 z.1 up) (split a)
        where
          o : (A m).proc ≡ p
          o = eqb-true _ _ (and_both (eqb (A m).proc p) (has_item (A m)) q).0

          act : (j : ℕ) → a ≡ 8 + j → UpTo s.order a x → Goal
          act j i (inl y) = at j i (ap (λ (k : ℕ). (A k).proc) (omega arith) ∙ o)
          act j i (inr y) = ⊎_elim (λ z. at j i (z ∙ o)) (through j m i o) (v.entry j m (subst (λ (k : ℕ). s.order (8 + j) k ≡ true) e (subst (λ (k : ℕ). s.order k x ≡ true) i y)))

  -- and the other way
  from_l : (l a x : ℕ) → stands_at l new ≡ true → x < 8 + s.count → earlier c S p l x ≡ true → UpTo (limited A l s.order) a x → (stands_in A l a ≡ true) × (a < 8 + s.count) × (earlier_one c s p x ≡ true)
  from_l l a x n lx h up = (stands_up A l s.order a x sx up, low up, one)
    where
      cases : ((x < 8) × (eqb x l ≡ true)) ⊎ ((m : ℕ) × (x ≡ 8 + m) × ((eqb (A m).proc p && stands_at l (A m)) ≡ true))
      cases = item_cases (eqb x l) (λ z. eqb z.proc p && stands_at l z) S x h

      sx : stands_in A l x ≡ true
      sx = ⊎_elim (λ q. stands_initial A l x q.0 ∙ q.1) (λ q. ap (stands_in A l) q.1 ∙ stands_at_lem A l q.0 ∙ (and_both (eqb (A q.0).proc p) (stands_at l (A q.0)) q.2).1) cases

      low : UpTo (limited A l s.order) a x → a < 8 + s.count
      low (inl e) = omega arith
      low (inr e) = v.low a x (limited_cases A l s.order a x e).2

      one : earlier_one c s p x ≡ true
      one = ⊎_elim
          (λ q. item_start (stands_at x new) (λ z. eqb z.proc p && has_item z) S x q.0 ∙ ap (λ (y : ℕ). stands_at y new) (eqb-true x l q.1) ∙ n)
          (λ q. let b = and_both (eqb (A q.0).proc p) (stands_at l (A q.0)) q.2 in ap (earlier_one c s p) q.1 ∙ item_at (stands_at (8 + q.0) new) (λ z. eqb z.proc p && has_item z) S q.0 ∙ and_make _ _ b.0 (stands_item l (A q.0) b.1))
          cases

  -- the one order, and that of l, after the issue
  abbrev joined_one : Order
  joined_one = joined_if (has_item new) s.order (8 + s.count) (8 + s.count) (earlier_one c s p)

  abbrev joined_at : ℕ → Order
  joined_at l = joined_if (stands_at l new) (limited A l s.order) (8 + s.count) (8 + s.count) (earlier c S p l)

  same_issue : (l a b : ℕ) → limited A' l joined_one a b ≡ joined_at l a b
  same_issue l a b = bool_eq _ _ there back
    where
      low_of : (x : ℕ) → x < 8 + s.count → UpTo s.order a x → a < 8 + s.count
      low_of x h (inl e) = omega arith
      low_of x h (inr e) = v.low a x e

      there : limited A' l joined_one a b ≡ true → joined_at l a b ≡ true
      there h =
          let w = limited_cases A' l joined_one a b h in
          ⊎_elim
          (λ q. joined_if_keeps (stands_at l new) _ _ _ _ a b (limited_make A l s.order a b (sym (stands_old l a (v.low a b q)) ∙ w.0) (sym (stands_old l b (v.target a b q).1) ∙ w.1) q))
          (λ q. let y = q.1 in let e = last b y.down in let la = low_of y.from y.low y.up in
          joined_if_via (stands_at l new) (limited A l s.order) (8 + s.count) (8 + s.count) (earlier c S p l) a b (sym (stands_new l) ∙ ap (stands_in A' l) (sym e) ∙ w.1)
          (subst (Via (limited A l s.order) (8 + s.count) (8 + s.count) (earlier c S p l) a) (sym e) (into_l l a (sym (stands_old l a la) ∙ w.0) la y.from y.low y.one y.up)))
          (joined_if_ways (has_item new) s.order (8 + s.count) (8 + s.count) (earlier_one c s p) a b w.2)

      back : joined_at l a b ≡ true → limited A' l joined_one a b ≡ true
      back h =
          ⊎_elim
          (λ q. let w = limited_cases A l s.order a b q in limited_make A' l joined_one a b (stands_old l a (v.low a b w.2) ∙ w.0) (stands_old l b (v.target a b w.2).1 ∙ w.1) (joined_if_keeps (has_item new) _ _ _ _ a b w.2))
          (λ q. let y = q.1 in
          let e = last b (limited_up A l s.order (8 + s.count) b y.down) in
          let f = from_l l a y.from q.0 y.low y.one y.up in
          limited_make A' l joined_one a b (stands_old l a f.1 ∙ f.0) (ap (stands_in A' l) e ∙ stands_new l ∙ q.0)
          (joined_if_via (has_item new) s.order (8 + s.count) (8 + s.count) (earlier_one c s p) a b (stands_item l new q.0)
          (record { from = y.from; low = y.low; one = f.2; up = limited_up A l s.order a y.from y.up; down = inl (sym e) })))
          (joined_if_ways (stands_at l new) (limited A l s.order) (8 + s.count) (8 + s.count) (earlier c S p l) a b h)

  view_issue : view c (issued_one c s p) ≡ issued c (view c s) p
  unfolding issued_one issued
  view_issue = view_path c (issued c (view c s) p) _ (λ l a b. tested_same (ltb l c.locs) (stands_at l new) (limited A' l joined_one) (limited A l s.order) (8 + s.count) (8 + s.count) (earlier c S p l) a b (same_issue l a b))

  one_issue : One (issued_one c s p)
  unfolding issued_one
  one_issue = record {
    low = λ a b h. ⊎_elim (λ q. omega (arith, v.low a b q, issued_count c S p)) (λ q. omega (arith, up a q.1.from q.1.low q.1.up, issued_count c S p)) (joined_if_ways _ _ _ _ _ a b h);
    target = λ a b h. ⊎_elim (λ q. let z = v.target a b q in (z.0, omega (arith, z.1, issued_count c S p))) (λ q. let e = last b q.1.down in (omega arith, omega (arith, issued_count c S p))) (joined_if_ways _ _ _ _ _ a b h);
    entry = λ j m h. ⊎_elim (old j m) (λ q. fresh j m q.1) (joined_if_ways _ _ _ _ _ (8 + j) (8 + m) h);
  }
    where
      up : (a x : ℕ) → x < 8 + s.count → UpTo s.order a x → a < 8 + s.count
      up a x h (inl e) = omega arith
      up a x h (inr e) = v.low a x e

      same : (k : ℕ) → k < s.count → A' k ≡ A k
      same k h = issued_kept c S p k h

      entry_grows : (j m m' : ℕ) → (A' m').proc ≡ (A m).proc → Entry s j m → Entry (issued_one c s p) j m'
      entry_grows j m m' o y = record {
        at = y.at;
        low = omega (arith, y.low, issued_count c S p);
        own = ap (λ (a : Action). a.proc) (same y.at y.low) ∙ y.own ∙ sym o;
        sync = ap (λ (a : Action). syncs (kind_of a)) (same y.at y.low) ∙ y.sync;
        edge = joined_if_keeps _ _ _ _ _ (8 + j) (8 + y.at) y.edge;
      }

      old : (j m : ℕ) → s.order (8 + j) (8 + m) ≡ true → ((A' j).proc ≡ (A' m).proc) ⊎ Entry (issued_one c s p) j m
      old j m h =
          let lj : j < s.count = omega (arith, v.low (8 + j) (8 + m) h) in
          let lm : m < s.count = omega (arith, (v.target (8 + j) (8 + m) h).1) in
          ⊎_elim (λ e. inl (ap (λ (a : Action). a.proc) (same j lj) ∙ e ∙ sym (ap (λ (a : Action). a.proc) (same m lm)))) (λ y. inr (entry_grows j m m (ap (λ (a : Action). a.proc) (same m lm)) y)) (v.entry j m h)

      fresh : (j m : ℕ) → Via s.order (8 + s.count) (8 + s.count) (earlier_one c s p) (8 + j) (8 + m) → ((A' j).proc ≡ (A' m).proc) ⊎ Entry (issued_one c s p) j m
      fresh j m w = from_item (item_cases (stands_at w.from new) (λ z. eqb z.proc p && has_item z) S w.from w.one)
        where
          mine : (A' m).proc ≡ p
          mine = ap (λ (k : ℕ). (A' k).proc) (omega (arith, last (8 + m) w.down)) ∙ ap (λ (a : Action). a.proc) (issued_new c S p)

          from_item : ((w.from < 8) × (stands_at w.from new ≡ true)) ⊎ ((k : ℕ) × (w.from ≡ 8 + k) × ((eqb (A k).proc p && has_item (A k)) ≡ true)) → ((A' j).proc ≡ (A' m).proc) ⊎ Entry (issued_one c s p) j m
          from_item (inl q) = absurd (early w.up)
            where
              early : UpTo s.order (8 + j) w.from → ⊥
              early (inl e) = omega (arith, q.0)
              early (inr e) = omega (arith, q.0, (v.target (8 + j) w.from e).0)
          from_item (inr (k, e, q)) = turn w.up
            where
              lk : k < s.count
              lk = omega (arith, w.low)

              o : (A k).proc ≡ p
              o = eqb-true _ _ (and_both (eqb (A k).proc p) (has_item (A k)) q).0

              turn : UpTo s.order (8 + j) w.from → ((A' j).proc ≡ (A' m).proc) ⊎ Entry (issued_one c s p) j m
              turn (inl x) = inl (ap (λ (i : ℕ). (A' i).proc) (omega arith) ∙ ap (λ (a : Action). a.proc) (same k lk) ∙ o ∙ sym mine)
              turn (inr x) = ⊎_elim
                  (λ z. inl (ap (λ (a : Action). a.proc) (same j (omega (arith, v.low (8 + j) w.from x))) ∙ z ∙ o ∙ sym mine))
                  (λ y. inr (entry_grows j k m (mine ∙ sym o) y))
                  (v.entry j k (subst (λ (i : ℕ). s.order (8 + j) i ≡ true) e x))

-- commit
module _ (c : Case) (s : OneState) (p act src : ℕ) (v : One s) (T : CanCommit c (view c s) p act src) where
  abbrev C : State
  C = committed c (view c s) p act src

  abbrev freed : ℕ → Bool
  freed = released c (view c s) p act src (input c (view c s) p act src 0)

  abbrev takes : Bool
  takes = acquiring (kind_of (s.actions act))

  stands_kept : (l e : ℕ) → e < 8 + s.count → stands_in C.actions l e ≡ stands_in s.actions l e
  stands_kept l e h = ⊎_elim (λ q. stands_initial C.actions l e q ∙ sym (stands_initial s.actions l e q)) (λ q. ap (stands_in C.actions l) q.1 ∙ stands_at_lem C.actions l q.0 ∙ committed_keeps c (view c s) p act src (stands_at l) refl q.0 ∙ sym (stands_at_lem s.actions l q.0) ∙ ap (stands_in s.actions l) (sym q.1)) (split e)

  freed_stands : (l x : ℕ) → freed x ≡ true → stands_in s.actions l x ≡ true
  freed_stands l x h = let f = released_cases c (view c s) p act src (input c (view c s) p act src 0) x h in ap (stands_in s.actions l) f.1 ∙ stands_at_lem s.actions l f.0 ∙ sync_stands l (s.actions f.0) (or_right (acquiring (kind_of (s.actions f.0))) _ f.2)

  taker_stands : (l : ℕ) → takes ≡ true → stands_in s.actions l (8 + act) ≡ true
  taker_stands l h = stands_at_lem s.actions l act ∙ sync_stands l (s.actions act) (or_left (acquiring (kind_of (s.actions act))) _ h)

  -- both ends of an edge by the acquire are items
  via_low : (a b : ℕ) → Via s.order (8 + act) (8 + s.count) freed a b → (a < 8 + s.count) × (b < 8 + s.count) × (8 ≤ b)
  via_low a b w = (up w.up, (down w.down).0, (down w.down).1)
    where
      up : UpTo s.order a w.from → a < 8 + s.count
      up (inl e) = omega (arith, w.low)
      up (inr e) = v.low a w.from e

      down : UpTo s.order (8 + act) b → (b < 8 + s.count) × (8 ≤ b)
      down (inl e) = (omega (arith, T.there), omega arith)
      down (inr e) = let z = v.target (8 + act) b e in (z.1, z.0)

  -- the one order, and that of l, after the commit
  abbrev taken_one : Order
  taken_one = joined_if takes s.order (8 + act) (8 + s.count) freed

  abbrev taken_at : ℕ → Order
  taken_at l = joined_if takes (limited s.actions l s.order) (8 + act) (8 + s.count) freed

  same_commit : (l a b : ℕ) → limited C.actions l taken_one a b ≡ taken_at l a b
  same_commit l a b = bool_eq _ _ there back
    where
      there : limited C.actions l taken_one a b ≡ true → taken_at l a b ≡ true
      there h =
          let w = limited_cases C.actions l taken_one a b h in
          ⊎_elim
          (λ q. joined_if_keeps takes _ _ _ _ a b (limited_make s.actions l s.order a b (sym (stands_kept l a (v.low a b q)) ∙ w.0) (sym (stands_kept l b (v.target a b q).1) ∙ w.1) q))
          (λ q. let y = q.1 in let z = via_low a b y in
          joined_if_via takes (limited s.actions l s.order) (8 + act) (8 + s.count) freed a b q.0
          (record {
            from = y.from;
            low = y.low;
            one = y.one;
            up = up_limited s.actions l s.order a y.from (sym (stands_kept l a z.0) ∙ w.0) (freed_stands l y.from y.one) y.up;
            down = up_limited s.actions l s.order (8 + act) b (taker_stands l q.0) (sym (stands_kept l b z.1) ∙ w.1) y.down;
          }))
          (joined_if_ways takes s.order (8 + act) (8 + s.count) freed a b w.2)

      back : taken_at l a b ≡ true → limited C.actions l taken_one a b ≡ true
      back h =
          ⊎_elim
          (λ q. let w = limited_cases s.actions l s.order a b q in limited_make C.actions l taken_one a b (stands_kept l a (v.low a b w.2) ∙ w.0) (stands_kept l b (v.target a b w.2).1 ∙ w.1) (joined_if_keeps takes _ _ _ _ a b w.2))
          (λ q. let y = q.1 in
          let x : Via s.order (8 + act) (8 + s.count) freed a b = record { from = y.from; low = y.low; one = y.one; up = limited_up s.actions l s.order a y.from y.up; down = limited_up s.actions l s.order (8 + act) b y.down } in
          let z = via_low a b x in
          limited_make C.actions l taken_one a b
          (stands_kept l a z.0 ∙ stands_up s.actions l s.order a y.from (freed_stands l y.from y.one) y.up)
          (stands_kept l b z.1 ∙ stands_down s.actions l s.order (8 + act) b (taker_stands l q.0) y.down)
          (joined_if_via takes s.order (8 + act) (8 + s.count) freed a b q.0 x))
          (joined_if_ways takes (limited s.actions l s.order) (8 + act) (8 + s.count) freed a b h)

  view_commit : view c (committed_one c s p act src) ≡ committed c (view c s) p act src
  unfolding committed_one committed
  view_commit = view_path c (committed c (view c s) p act src) _ (λ l a b. tested_same (ltb l c.locs) takes (limited C.actions l taken_one) (limited s.actions l s.order) (8 + act) (8 + s.count) freed a b (same_commit l a b))

  one_commit : One (committed_one c s p act src)
  unfolding committed_one
  one_commit = record {
    low = λ a b h. ⊎_elim (λ q. omega (arith, v.low a b q, committed_count c (view c s) p act src)) (λ q. omega (arith, (via_low a b q.1).0, committed_count c (view c s) p act src)) (joined_if_ways _ _ _ _ _ a b h);
    target = λ a b h. ⊎_elim (λ q. let z = v.target a b q in (z.0, omega (arith, z.1, committed_count c (view c s) p act src))) (λ q. let z = via_low a b q.1 in (z.2, omega (arith, z.1, committed_count c (view c s) p act src))) (joined_if_ways _ _ _ _ _ a b h);
    entry = λ j m h. ⊎_elim (old j m) (λ q. fresh j m q.0 q.1) (joined_if_ways _ _ _ _ _ (8 + j) (8 + m) h);
  }
    where
      proc_kept : (k : ℕ) → (C.actions k).proc ≡ (s.actions k).proc
      proc_kept = committed_keeps c (view c s) p act src (λ a. a.proc) refl

      -- by action y of m's processor
      made : (j m y : ℕ) → y < s.count → (s.actions y).proc ≡ (s.actions m).proc → syncs (kind_of (s.actions y)) ≡ true → joined_if takes s.order (8 + act) (8 + s.count) freed (8 + j) (8 + y) ≡ true → Entry (committed_one c s p act src) j m
      made j m y ly o sy e = record {
        at = y;
        low = omega (arith, committed_count c (view c s) p act src);
        own = proc_kept y ∙ o ∙ sym (proc_kept m);
        sync = committed_keeps c (view c s) p act src (λ a. syncs (kind_of a)) refl y ∙ sy;
        edge = e;
      }

      old : (j m : ℕ) → s.order (8 + j) (8 + m) ≡ true → ((C.actions j).proc ≡ (C.actions m).proc) ⊎ Entry (committed_one c s p act src) j m
      old j m h =
          ⊎_elim (λ e. inl (proc_kept j ∙ e ∙ sym (proc_kept m))) (λ y. inr (made j m y.at y.low y.own y.sync (joined_if_keeps takes _ _ _ _ (8 + j) (8 + y.at) y.edge))) (v.entry j m h)

      fresh : (j m : ℕ) → takes ≡ true → Via s.order (8 + act) (8 + s.count) freed (8 + j) (8 + m) → ((C.actions j).proc ≡ (C.actions m).proc) ⊎ Entry (committed_one c s p act src) j m
      fresh j m q w = inr (turn w.down)
        where
          sy : syncs (kind_of (s.actions act)) ≡ true
          sy = or_left (acquiring (kind_of (s.actions act))) _ q

          -- to whatever stands from the acquire on
          to : (y : ℕ) → UpTo s.order (8 + act) (8 + y) → joined_if takes s.order (8 + act) (8 + s.count) freed (8 + j) (8 + y) ≡ true
          to y d = joined_if_via takes s.order (8 + act) (8 + s.count) freed (8 + j) (8 + y) q (record { from = w.from; low = w.low; one = w.one; up = w.up; down = d })

          turn : UpTo s.order (8 + act) (8 + m) → Entry (committed_one c s p act src) j m
          turn (inl e) = made j m act T.there (ap (λ (k : ℕ). (s.actions k).proc) (omega arith)) sy (to act (inl refl))
          turn (inr e) = ⊎_elim (λ o. made j m act T.there o sy (to act (inl refl))) (λ y. made j m y.at y.low y.own y.sync (to y.at (inr y.edge))) (v.entry act m e)

-- a step, a schedule

pub view_step : (c : Case) (s : OneState) (t : Step) → One s → step_code c (view c s) t ≡ 0 → view c (after_one c s t) ≡ after c (view c s) t
unfolding after_one after
view_step c s (issue p) v h = view_issue c s p v
view_step c s (commit p k e) v h = view_commit c s p k e v (can_commit c (view c s) p k e h)
view_step c s neither v h = absurd (neither_no c (view c s) h)

pub one_step : (c : Case) (s : OneState) (t : Step) → One s → step_code c (view c s) t ≡ 0 → One (after_one c s t)
unfolding after_one
one_step c s (issue p) v h = one_issue c s p v
one_step c s (commit p k e) v h = one_commit c s p k e v (can_commit c (view c s) p k e h)
one_step c s neither v h = absurd (neither_no c (view c s) h)

-- the same code and number of steps, and states that differ in how they keep the orders
pub record Same (c : Case) (r : Replay OneState) (q : Replay State) : Type 0 where
  pub code : r.code ≡ q.code
  pub taken : r.taken ≡ q.taken
  pub state : view c r.state ≡ q.state

resumed-same : (c : Case) (n : ℕ) (s : OneState) (r : Replay OneState) (q : Replay State) → (n ≡ 0 → Same c r q) → Same c (resumed n s r) (resumed n (view c s) q)
resumed-same c zero s r q h = let x = h refl in record { code = x.code; taken = ap suc x.taken; state = x.state }
resumed-same c (suc n) s r q h = record { code = refl; taken = refl; state = refl }

same_from : (c : Case) (ts : List Step) (s : OneState) → One s → Same c (replay (womm_one c) s ts) (replay (womm c) (view c s) ts)
unfolding replay
same_from c [] s v = record { code = refl; taken = refl; state = refl }
same_from c (t ∷ ts) s v =
    resumed-same c (step_code c (view c s) t) s (replay (womm_one c) (after_one c s t) ts) (replay (womm c) (after c (view c s) t) ts)
    (λ h. subst (λ (x : State). Same c (replay (womm_one c) (after_one c s t) ts) (replay (womm c) x ts)) (view_step c s t v h) (same_from c ts (after_one c s t) (one_step c s t v h)))

pub one_initial : (c : Case) → One (initial_one c)
one_initial c = record { low = λ a b h. absurd (false≢true h); target = λ a b h. absurd (false≢true h); entry = λ j m h. absurd (false≢true h) }

pub view-initial : (c : Case) → view c (initial_one c) ≡ initial c
view-initial c =
    view_path c (initial c) (λ a b. false)
    (λ l a b. and_right (ltb l c.locs) _ (and_right (stands_in (initial c).actions l a && stands_in (initial c).actions l b) false refl))

-- every schedule replays the same
pub same-replay : (c : Case) (ts : List Step) → Same c (replay (womm_one c) (initial_one c) ts) (replay (womm c) (initial c) ts)
same-replay c ts = subst (λ (x : State). Same c (replay (womm_one c) (initial_one c) ts) (replay (womm c) x ts)) (view-initial c) (same_from c ts (initial_one c) (one_initial c))

-- 'No promise changes': the same outcomes, the same cut
pub same_outcomes : (c : Case) (n : ℕ) (r : List ℕ) → Outcome (womm_one c) n r ↔ Outcome (womm c) n r
same_outcomes c n r = (
  λ o. let q = same-replay c o.schedule in
      record {
        schedule = o.schedule;
        end = view c o.end;
        short = o.short;
        leads = record { accepted = sym q.code ∙ o.leads.accepted; ends = sym q.state ∙ ap (view c) o.leads.ends };
        done = o.done;
        gives = o.gives;
      },
  λ o. let q = same-replay c o.schedule in
      let z : view c (replay (womm_one c) (initial_one c) o.schedule).state ≡ o.end = q.state ∙ o.leads.ends in
      record {
        schedule = o.schedule;
        end = (replay (womm_one c) (initial_one c) o.schedule).state;
        short = o.short;
        leads = record { accepted = q.code ∙ o.leads.accepted; ends = refl };
        done = ap (finished c) z ∙ o.done;
        gives = ap (registers c) z ∙ o.gives;
      },
)

pub same_cut : (c : Case) (n : ℕ) → Cut (womm_one c) n ↔ Cut (womm c) n
same_cut c n = (
  λ o. let q = same-replay c o.schedule in
      record {
        schedule = o.schedule;
        end = view c o.end;
        exact = o.exact;
        leads = record { accepted = sym q.code ∙ o.leads.accepted; ends = sym q.state ∙ ap (view c) o.leads.ends };
        undone = o.undone;
      },
  λ o. let q = same-replay c o.schedule in
      let z : view c (replay (womm_one c) (initial_one c) o.schedule).state ≡ o.end = q.state ∙ o.leads.ends in
      record {
        schedule = o.schedule;
        end = (replay (womm_one c) (initial_one c) o.schedule).state;
        exact = o.exact;
        leads = record { accepted = q.code ∙ o.leads.accepted; ends = refl };
        undone = ap (finished c) z ∙ o.undone;
      },
)
