-- The test of two actions from their entries and rows, and the lowest that pass it. Assumes nothing.
use mathlib.Core.Path.{◌≡◌, refl, sym, ◌∙◌, ap, ap₂, subst}
use mathlib.Core.Logic.{⊎_elim}
use mathlib.Core.Bool.{Bool, true, false, not, ◌&&◌, ◌||◌}
use mathlib.Core.List.{List}
use Prim.Native.Nat.{ℕ, ◌+◌, ◌≤◌, ◌<◌}
use native.Mathlib.Omega.{arith}
use lib.Dec.{eqb, ltb}
use lib.ListN.{get_or}
use borrow.Author.Tests.{eqb-true, eq-eqb, lt-ltb, le-ltb, ltb-true}
use Rattle.std.proofs.lemmas.Bool.{false≢true, true≢false}
use Rattle.std.proofs.Common.{Option, Some, None}
use Rattle.std.specs.Option.{IfSome, is_some, unwrap_or}
use Rattle.words.proofs.Bools.{decide, and_both, and_make, and_right, or_right}
use Rattle.cases.specs.declared.Case.{Case}
use Rattle.cases.proofs.Lowest.{lowest_is, lowest_hit}
use Rattle.rules.specs.Kinds.{writing, accesses, syncs}
use Rattle.rules.specs.Order.{Order}
use Rattle.rules.specs.State.{State, Action, kind_of}
use Rattle.rules.proofs.Actions.{either}
use Rattle.oneorder.specs.OneOrder.{stands_in}
use Rattle.oneorder.proofs.OneOrder.{stands_at_lem}
use Rattle.oneorder.proofs.Visible.{limited-same}
use Rattle.orders.specs.Rows.{order_of}
use Rattle.machine.specs.declared.Entry.{Entry}
use Rattle.machine.specs.Word.{entry_of}
use Rattle.machine.specs.Shown.{shown_entry, orders_of, Acts}
use Rattle.committing.specs.Committed.{Entries}
use Rattle.machine.proofs.Entries.{action_at_lem}
use Rattle.races.specs.Test.{conflict, unordered, races, partner, opener, first_of_race, second_of_race}

-- two entries that meet, unordered: between reads and writes of one location its order is the one order
module _ (c : Case) (n : ℕ) (acts : List ℕ) (s : State) (a : Acts c n acts s) (rows : List ℕ) (o : s.orders ≡ orders_of c s.actions rows) (e : Entries c n acts) (j k : ℕ) (hj : j < n) (hk : k < n) where
  ej : s.actions j ≡ shown_entry c (entry_of (get_or acts j 0))
  ej = action_at_lem c n acts s a j hj

  same_order : conflict (s.actions j) (s.actions k) ≡ true → unordered (order_of rows) j k ≡ unordered (s.orders (s.actions j).loc) j k
  same_order h =
      let l = (s.actions j).loc in
      let w = and_both ((accesses (kind_of (s.actions j)) && accesses (kind_of (s.actions k))) && eqb l (s.actions k).loc) (writing (kind_of (s.actions j)) || writing (kind_of (s.actions k))) h in
      let q = and_both (accesses (kind_of (s.actions j)) && accesses (kind_of (s.actions k))) (eqb l (s.actions k).loc) w.0 in
      let b = and_both (accesses (kind_of (s.actions j))) (accesses (kind_of (s.actions k))) q.0 in
      let low : l < c.locs = subst (λ (x : Action). x.loc < c.locs) (sym ej) ((e j hj).present (sym (ap (λ (x : Action). accesses (kind_of x)) ej) ∙ b.0)) in
      let sj = stands_at_lem s.actions l j ∙ or_right (syncs (kind_of (s.actions j))) _ (and_make _ _ b.0 (eq-eqb l l refl)) in
      let sk = stands_at_lem s.actions l k ∙ or_right (syncs (kind_of (s.actions k))) _ (and_make _ _ b.1 (eq-eqb (s.actions k).loc l (sym (eqb-true l (s.actions k).loc q.1)))) in
      let at : (x y : ℕ) → stands_in s.actions l x ≡ true → stands_in s.actions l y ≡ true → order_of rows x y ≡ s.orders l x y =
      λ x y u v. sym (ap (λ (R : ℕ → Order). R l x y) o ∙ limited-same (ltb l c.locs) s.actions l (order_of rows) x y (lt-ltb _ _ low) u v) in
      ap₂ (λ (x y : Bool). not x && not y) (at (8 + j) (8 + k) sj sk) (at (8 + k) (8 + j) sk sj)

  pub races_is : (x y : Entry) (meet free : Bool) → x ≡ entry_of (get_or acts j 0) → y ≡ entry_of (get_or acts k 0) → meet ≡ conflict (shown_entry c x) (shown_entry c y) → free ≡ unordered (order_of rows) j k → (meet && free) ≡ races s j k
  unfolding races
  races_is x y meet free ex ey m f = ap₂ (λ (x y : Bool). x && y) (m ∙ ap₂ (λ (u v : Entry). conflict (shown_entry c u) (shown_entry c v)) ex ey ∙ (λ i. conflict (sym ej i) (sym (action_at_lem c n acts s a k hk) i))) f ∙ ⊎_elim (λ h. ap (λ (x : Bool). conflict (s.actions j) (s.actions k) && x) (same_order h)) (λ h. rw h refl) (decide (conflict (s.actions j) (s.actions k)))

-- a number below n that was found, and one that was not
pub found : (r : Option ℕ) (n : ℕ) → IfSome r (λ k. k < n) → is_some r ≡ true → unwrap_or r n < n
found (Some k) n h e = h
found None n h e = absurd (false≢true e)

pub lost : (r : Option ℕ) (n : ℕ) → is_some r ≡ false → n ≤ unwrap_or r n
lost (Some k) n e = absurd (true≢false e)
lost None n e = omega arith

-- no number up to k passes
none_more : (f : ℕ → Bool) (k : ℕ) → ((i : ℕ) → i < k → f i ≡ false) → f k ≡ false → (i : ℕ) → i < k + 1 → f i ≡ false
none_more f k h q i l = either i k (λ e. ap f e ∙ q) (λ n. h i (omega arith))

-- k is the first partner of j, where none was found before it
module _ (s : State) (j : ℕ) where
  -- no partner is below k
  abbrev pub Unmet : ℕ → Type 0
  Unmet k = (i : ℕ) → i < k → (ltb j i && races s j i) ≡ false

  pub unmet_start : Unmet (j + 1)
  unmet_start i h = ap (λ (b : Bool). b && races s j i) (le-ltb j i (omega arith))

  pub unmet_next : (k : ℕ) → Unmet k → false ≡ races s j k → Unmet (k + 1)
  unmet_next k u q = none_more (λ i. ltb j i && races s j i) k u (and_right (ltb j k) (races s j k) (sym q))

  pub met : (k : ℕ) → k < s.count → j < k → Unmet k → true ≡ races s j k → k ≡ partner s j
  unfolding partner
  met k h l u q = lowest_is s.count (λ i. ltb j i && races s j i) k (omega arith) u (λ _. and_make _ _ (lt-ltb j k l) (sym q))

  pub unmet : (n : ℕ) → s.count ≡ n → Unmet n → n ≡ partner s j
  unfolding partner
  unmet n e u = lowest_is s.count (λ i. ltb j i && races s j i) n (omega arith) u (λ h. absurd (omega arith))

module _ (s : State) where
  -- no action below j has a partner
  abbrev pub Unopened : ℕ → Type 0
  Unopened j = (i : ℕ) → i < j → ltb (partner s i) s.count ≡ false

  pub unopened_next : (j k : ℕ) → Unopened j → k ≡ partner s j → s.count ≤ k → Unopened (j + 1)
  unopened_next j k u e h = none_more (λ i. ltb (partner s i) s.count) j u (le-ltb (partner s j) s.count (omega arith))

  pub opened : (j k : ℕ) → j < s.count → Unopened j → k ≡ partner s j → k < s.count → j ≡ opener s
  unfolding opener
  opened j k h u e l = lowest_is s.count (λ i. ltb (partner s i) s.count) j (omega arith) u (λ _. lt-ltb (partner s j) s.count (omega arith))

  pub unopened : (n : ℕ) → s.count ≡ n → Unopened n → n ≡ opener s
  unfolding opener
  unopened n e u = lowest_is s.count (λ i. ltb (partner s i) s.count) n (omega arith) u (λ h. absurd (omega arith))

  -- the lowest with a partner has one
  pub opened_meets : (j : ℕ) → j ≡ opener s → j < s.count → partner s j < s.count
  unfolding opener
  opened_meets j e h = ltb-true (partner s j) s.count (ap (λ (i : ℕ). ltb (partner s i) s.count) e ∙ lowest_hit s.count (λ i. ltb (partner s i) s.count) (omega (arith, e, h)))

  pub pair_found : (j k : ℕ) → j ≡ opener s → j < s.count → k ≡ partner s j → (j ≡ first_of_race s) × (k ≡ second_of_race s)
  pair_found j k e h q = let t = lt-ltb (opener s) s.count (omega arith) in (e ∙ sym (rw t), q ∙ ap (partner s) e ∙ sym (rw t))

  pub pair-none : (j : ℕ) → j ≡ opener s → s.count ≤ j → (255 ≡ first_of_race s) × (255 ≡ second_of_race s)
  pair-none j e h = let t = le-ltb (opener s) s.count (omega arith) in (sym (rw t), sym (rw t))
