-- What a read sees. Assumes nothing.
use mathlib.Core.Path.{◌≡◌, refl, sym, ap, ◌∙◌}
use mathlib.Core.Bool.{Bool, true, false, ◌&&◌, ◌||◌, not}
use mathlib.Core.List.{List}
use Prim.Native.Nat.{ℕ, ◌+◌, ◌-◌, ◌^◌, ◌≤◌, ◌<◌}
use native.Mathlib.Omega.{arith}
use native.Mathlib.Decide.{dec_lt}
use lib.Bits.{bit_and, bit_or}
use lib.Dec.{eqb, ltb}
use lib.ListN.{get_or}
use borrow.Author.Tests.{lt-ltb, le-ltb, ltb-true}
use Rattle.words.specs.Small.{is_none, some_below}
use Rattle.words.specs.Sets.{has}
use Rattle.words.proofs.Bools.{bool_eq, and_both, and_make, and_right, and_true, below_cases, below_make}
use Rattle.words.proofs.Sets.{has_or, has_one, has_zero}
use Rattle.cases.specs.declared.Case.{Case}
use Rattle.rules.specs.State.{State, item_value}
use Rattle.rules.specs.Commit.{writes, visible}
use Rattle.oneorder.specs.OneOrder.{with_order, visible_one}
use Rattle.orders.specs.Rows.{order_of}
use Rattle.machine.proofs.Ordered.{visible_rows}
use Rattle.orders.proofs.Bits.{has_and}
use Rattle.orders.proofs.Walks.{in_some}
use Rattle.sights.specs.Sights.{Sight}

pub row_none : (rows : List ℕ) (a w : ℕ) → 56 ≤ w → has 0 a ≡ order_of rows a w
unfolding order_of
row_none rows a w h = rw (has_zero a, le-ltb w 56 h)

pub row_is : (rows : List ℕ) (a w : ℕ) → w < 56 → has (get_or rows w 0) a ≡ order_of rows a w
unfolding order_of
row_is rows a w h = rw (lt-ltb w 56 h)

pub with_one : (x e a : ℕ) (test : Bool) → test ≡ false → has (bit_or (2 ^ e) x) a ≡ ((eqb a e && not test) || has x a)
with_one x e a test t = has_or (2 ^ e) x a ∙ rw (has_one e a, t) (ap (λ (b : Bool). b || has x a) (sym (and_true (eqb a e))))

pub with_none : (x e a : ℕ) (test : Bool) → test ≡ true → has x a ≡ ((eqb a e && not test) || has x a)
with_none x e a test t = rw t (ap (λ (b : Bool). b || has x a) (sym (and_right (eqb a e) false refl)))

module _ (c : Case) (s : State) (sets rows : List ℕ) (l i : ℕ) (loc : l < 8) (v : Sight c s sets rows l i) where
  -- the write items that stand before item i and after item a
  between : (near gone a : ℕ) → ((w : ℕ) → has near w ≡ order_of rows w i) → has gone a ≡ in_some (bit_and (get_or sets l 0) near) (order_of rows a)
      → has gone a ≡ some_below (8 + s.count) (λ w. writes s l w && (order_of rows a w && order_of rows w i))
  between near gone a N G = G ∙ bool_eq _ _ part whole
    where
      part : in_some (bit_and (get_or sets l 0) near) (order_of rows a) ≡ true → some_below (8 + s.count) (λ w. writes s l w && (order_of rows a w && order_of rows w i)) ≡ true
      part h =
          let r = below_cases 64 (λ w. has (bit_and (get_or sets l 0) near) w && order_of rows a w) h in
          let b = and_both (has (bit_and (get_or sets l 0) near) r.0) _ r.2 in
          let d = and_both (has (get_or sets l 0) r.0) (has near r.0) (sym (has_and (get_or sets l 0) near r.0) ∙ b.0) in
          let w = and_both (ltb r.0 (8 + s.count)) _ (sym (v.kept.writes l loc r.0) ∙ d.0) in
          below_make (8 + s.count) (λ w. writes s l w && (order_of rows a w && order_of rows w i)) r.0 (ltb-true r.0 (8 + s.count) w.0) (and_make (writes s l r.0) _ w.1 (and_make (order_of rows a r.0) _ b.1 (sym (N r.0) ∙ d.1)))

      whole : some_below (8 + s.count) (λ w. writes s l w && (order_of rows a w && order_of rows w i)) ≡ true → in_some (bit_and (get_or sets l 0) near) (order_of rows a) ≡ true
      whole h =
          let r = below_cases (8 + s.count) (λ w. writes s l w && (order_of rows a w && order_of rows w i)) h in
          let top = r.1 in
          let low = v.low in
          let b = and_both (writes s l r.0) _ r.2 in
          let d = and_both (order_of rows a r.0) _ b.1 in
          below_make 64 (λ w. has (bit_and (get_or sets l 0) near) w && order_of rows a w) r.0 (omega arith)
          (and_make (has (bit_and (get_or sets l 0) near) r.0) _
          (has_and (get_or sets l 0) near r.0 ∙ and_make (has (get_or sets l 0) r.0) (has near r.0) (v.kept.writes l loc r.0 ∙ and_make (ltb r.0 (8 + s.count)) _ (lt-ltb r.0 (8 + s.count) r.1) b.0) (N r.0 ∙ d.1))
          d.0)

  given_at : (e : ℕ) → has (bit_and (get_or sets l 0) (get_or sets 20 0)) e ≡ (ltb e (8 + s.count) && (writes s l e && not (is_none (item_value c s e))))
  given_at e = has_and (get_or sets l 0) (get_or sets 20 0) e ∙ (λ j. v.kept.writes l loc e j && v.kept.given e j) ∙ spread (ltb e (8 + s.count)) (writes s l e) (not (is_none (item_value c s e)))
    where
      spread : (u v w : Bool) → (u && v && (u && w)) ≡ (u && (v && w))
      spread true v w = refl
      spread false v w = refl

  -- no item past the last is a write
  no_write : (e : ℕ) → 8 + s.count ≤ e → writes s l e ≡ false
  no_write e h = rw (le-ltb e 8 (omega arith), v.ends (e - 8) (omega arith))

  asked : (gone left r e : ℕ) → has gone e ≡ some_below (8 + s.count) (λ w. writes s l w && (order_of rows e w && order_of rows w i))
      → has left e ≡ (has (bit_and (get_or sets l 0) (get_or sets 20 0)) e && not (has gone e)) → has r e ≡ (has left e && not (order_of rows i e))
      → has r e ≡ visible_one c (with_order s (order_of rows)) l i e
  unfolding visible_one
  asked gone left r e G L H =
      H
      ∙ ap (λ (b : Bool). b && not (order_of rows i e)) L
      ∙ (λ j. given_at e j && not (G j) && not (order_of rows i e))
      ∙ elim (dec_lt e (8 + s.count)) [
        | yes h ↦ rw (lt-ltb e (8 + s.count) h)
        | no h ↦ rw (le-ltb e (8 + s.count) (omega arith), no_write e (omega arith))
      ]

  pub sees_is : (near gone left r : ℕ) → ((w : ℕ) → has near w ≡ order_of rows w i) → ((a : ℕ) → has gone a ≡ in_some (bit_and (get_or sets l 0) near) (order_of rows a))
      → ((e : ℕ) → has left e ≡ (has (bit_and (get_or sets l 0) (get_or sets 20 0)) e && not (has gone e))) → ((e : ℕ) → has r e ≡ (has left e && not (order_of rows i e)))
      → (e : ℕ) → has r e ≡ visible c s l i e
  sees_is near gone left r N G L H e = asked gone left r e (between near gone e N (G e)) (L e) (H e) ∙ visible_rows c s rows l i e v.orders v.loc v.stands
