-- Rows that are joined, as orders. Assumes nothing.
use mathlib.Core.Path.{◌≡◌, refl, sym, ◌∙◌, ap, subst, fun_ext}
use mathlib.Core.Logic.{◌⊎◌, inl, inr, ⊎_elim}
use mathlib.Core.Bool.{Bool, true, false, ◌&&◌, ◌||◌}
use mathlib.Core.List.{List}
use Prim.Native.Nat.{ℕ, ◌+◌, ◌^◌, ◌≤◌, ◌<◌}
use native.Mathlib.Omega.{arith}
use native.Mathlib.Decide.{dec_lt}
use lib.Dec.{eqb, ltb}
use lib.Bits.{bit_or}
use lib.ListN.{length, get_or, set}
use lib.Seq.{get_or-set_same, get_or-set_other}
use borrow.Author.Tests.{ne_eqb, lt-ltb, le-ltb}
use Rattle.words.specs.Sets.{has}
use Rattle.words.specs.Small.{some_below}
use Rattle.rules.specs.Order.{Order, up_to, joined, joined_if}
use Rattle.orders.specs.Rows.{order_of, SetOf, Reaches, joined_row, JoinedTo, Joined}
use Rattle.words.proofs.Bools.{or_nothing}
use Rattle.words.proofs.Sets.{has_or, has_one, has_zero}

pub order_at : (rows : List ℕ) (a b : ℕ) → b < 56 → order_of rows a b ≡ has (get_or rows b 0) a
unfolding order_of
order_at rows a b k = rw (lt-ltb b 56 k)

pub order_out : (rows : List ℕ) (a b : ℕ) → 56 ≤ b → order_of rows a b ≡ false
unfolding order_of
order_out rows a b h = rw (le-ltb b 56 h)

-- item e and what stands before it
pub up_to_in : (rows : List ℕ) (e one : ℕ) → e < 56 → one ≡ 2 ^ e → (a : ℕ) → has (bit_or one (get_or rows e 0)) a ≡ (ltb e 56 && up_to (order_of rows) a e)
up_to_in rows e one h q a = has_or one (get_or rows e 0) a ∙ rw (q, has_one e a, lt-ltb e 56 h, order_at rows a e h)

pub up_to_out : (rows : List ℕ) (e : ℕ) → 56 ≤ e → (a : ℕ) → has 0 a ≡ (ltb e 56 && up_to (order_of rows) a e)
up_to_out rows e h a = rw (has_zero a, le-ltb e 56 h)

pub joined_yes : (row b i mask : ℕ) → (eqb b i || has row i) ≡ true → joined_row row b i mask ≡ bit_or row mask
unfolding joined_row
joined_yes row b i mask h = rw h

pub joined_no : (row b i mask : ℕ) → (eqb b i || has row i) ≡ false → joined_row row b i mask ≡ row
unfolding joined_row
joined_no row b i mask h = rw h

pub joined-none : (rows : List ℕ) (i mask : ℕ) → JoinedTo rows rows i mask 0
joined-none rows i mask = record { low = λ j h. absurd (omega arith); rest = λ j h. refl }

-- one row more
pub joined_more : (old new : List ℕ) (i mask b : ℕ) → length new ≡ 56 → b < 56 → JoinedTo old new i mask b → JoinedTo old (set new b (joined_row (get_or new b 0) b i mask)) i mask (b + 1)
joined_more old new i mask b len hb u = record {
  low = λ j h.
      ⊎_elim
      (λ e. subst (λ (x : ℕ). get_or (set new b (joined_row (get_or new b 0) b i mask)) x 0 ≡ joined_row (get_or old x 0) x i mask) (sym e)
      (get_or-set_same new b _ 0 (omega arith) ∙ ap (λ (x : ℕ). joined_row x b i mask) (u.rest b (omega arith))))
      (λ lt. get_or-set_other new b j _ 0 (λ e. omega arith) ∙ u.low j lt)
      (split j h);
  rest = λ j h. get_or-set_other new b j _ 0 (λ e. omega arith) ∙ u.rest j (omega arith);
}
  where
    split : (j : ℕ) → j < b + 1 → (j ≡ b) ⊎ (j < b)
    split j h = elim (dec_lt j b) [ yes k ↦ inr k | no k ↦ inl (omega arith) ]

-- the order is joined
order_joined : (old new : List ℕ) (i mask : ℕ) (n : ℕ) (P : ℕ → Bool) → i < 56 → JoinedTo old new i mask 56 → Reaches (order_of old) n P mask → order_of new ≡ joined (order_of old) i n P
unfolding joined
order_joined old new i mask n P hi u hm = fun_ext (λ (a : ℕ). fun_ext (at a))
  where
    inside : (a b : ℕ) → b < 56 → (w : Bool) → (eqb b i || has (get_or old b 0) i) ≡ w → order_of new a b ≡ (order_of old a b || (w && some_below n (λ p. P p && up_to (order_of old) a p)))
    inside a b k true e = order_at new a b k ∙ ap (λ (x : ℕ). has x a) (u.low b k ∙ joined_yes (get_or old b 0) b i mask e) ∙ has_or (get_or old b 0) mask a ∙ rw (order_at old a b k, hm a)
    inside a b k false e = order_at new a b k ∙ ap (λ (x : ℕ). has x a) (u.low b k ∙ joined_no (get_or old b 0) b i mask e) ∙ rw (order_at old a b k) (sym (or_nothing (has (get_or old b 0) a)))

    within : (a b : ℕ) → b < 56 → order_of new a b ≡ (order_of old a b || ((eqb b i || order_of old i b) && some_below n (λ p. P p && up_to (order_of old) a p)))
    within a b k = rw (order_at old i b k) (inside a b k (eqb b i || has (get_or old b 0) i) refl)

    outside : (a b : ℕ) → 56 ≤ b → order_of new a b ≡ (order_of old a b || ((eqb b i || order_of old i b) && some_below n (λ p. P p && up_to (order_of old) a p)))
    outside a b k = rw (order_out new a b k, order_out old a b k, order_out old i b k, ne_eqb b i (λ e. omega arith))

    at : (a b : ℕ) → order_of new a b ≡ (order_of old a b || ((eqb b i || order_of old i b) && some_below n (λ p. P p && up_to (order_of old) a p)))
    at a b = elim (dec_lt b 56) [ yes k ↦ within a b k | no k ↦ outside a b (omega arith) ]

pub all_joined : (old new : List ℕ) (i mask items n : ℕ) → i < 56 → length new ≡ 56 → JoinedTo old new i mask 56
    → ((P : ℕ → Bool) → SetOf n P items → Reaches (order_of old) n P mask) → Joined old new i items n
all_joined old new i mask items n hi len u h = record { size = len; joins = λ P q. order_joined old new i mask n P hi u (h P q) }

-- an order is joined where the test passes, else kept
pub join_taken : (b : Bool) (R : Order) (i n : ℕ) (P : ℕ → Bool) → b ≡ true → joined R i n P ≡ joined_if b R i n P
unfolding joined_if
join_taken b R i n P h = rw h

pub join_left : (b : Bool) (R : Order) (i n : ℕ) (P : ℕ → Bool) → b ≡ false → R ≡ joined_if b R i n P
unfolding joined_if
join_left b R i n P h = rw h
