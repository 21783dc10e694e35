-- Orders with items put in. Assumes nothing.
use Rattle.std.proofs.Common.{◌≡◌, ℕ, ◌<◌, Bool, true, false, ◌&&◌, ◌||◌, eqb, refl, ap, ne_eqb}
use mathlib.Core.Path.{fun_ext}
use Rattle.words.specs.Small.{some_below}
use Rattle.rules.specs.Order.{Order, up_to, joined, joined_if}
use Rattle.words.proofs.Bools.{and_both, and_make, bool_eq, below_cases, below_make, or_nothing}
use Rattle.rules.proofs.Closed.{Transitive, joined_swap}

pub joined_if-false : (b : Bool) (R : Order) (i n : ℕ) (P : ℕ → Bool) → b ≡ false → joined_if b R i n P ≡ R
unfolding joined_if
joined_if-false b R i n P e = rw e

-- in either order
pub joined_if_swap : (x y : Bool) (R : Order) (i n : ℕ) (P : ℕ → Bool) (j m : ℕ) (Q : ℕ → Bool) → Transitive R → joined_if y (joined_if x R i n P) j m Q ≡ joined_if x (joined_if y R j m Q) i n P
unfolding joined_if
joined_if_swap true true R i n P j m Q t = fun_ext λ a. fun_ext λ b. bool_eq _ _ (joined_swap R i n P j m Q t a b) (joined_swap R j m Q i n P t a b)
joined_if_swap true false R i n P j m Q t = refl
joined_if_swap false true R i n P j m Q t = refl
joined_if_swap false false R i n P j m Q t = refl

-- the same items
pub joined_ext : (R : Order) (i n m : ℕ) (P Q : ℕ → Bool) → ((e : ℕ) → e < n → P e ≡ true → (e < m) × (Q e ≡ true)) → ((e : ℕ) → e < m → Q e ≡ true → (e < n) × (P e ≡ true)) → joined R i n P ≡ joined R i m Q
unfolding joined
joined_ext R i n m P Q f g = fun_ext λ a. fun_ext λ b. ap (λ (x : Bool). R a b || ((eqb b i || R i b) && x)) (bool_eq _ _ (half n m P Q f a) (half m n Q P g a))
  where
    half : (n m : ℕ) (P Q : ℕ → Bool) → ((e : ℕ) → e < n → P e ≡ true → (e < m) × (Q e ≡ true)) → (a : ℕ) → some_below n (λ p. P p && up_to R a p) ≡ true → some_below m (λ p. Q p && up_to R a p) ≡ true
    half n m P Q f a h =
        let r = below_cases n (λ p. P p && up_to R a p) h in
        let w = and_both (P r.0) (up_to R a r.0) r.2 in
        let k = f r.0 r.1 w.0 in
        below_make m (λ p. Q p && up_to R a p) r.0 k.0 (and_make (Q r.0) (up_to R a r.0) k.1 w.1)

pub joined_if_ext : (x : Bool) (R : Order) (i n m : ℕ) (P Q : ℕ → Bool) → ((e : ℕ) → e < n → P e ≡ true → (e < m) × (Q e ≡ true)) → ((e : ℕ) → e < m → Q e ≡ true → (e < n) × (P e ≡ true)) → joined_if x R i n P ≡ joined_if x R i m Q
unfolding joined_if
joined_if_ext true R i n m P Q f g = joined_ext R i n m P Q f g
joined_if_ext false R i n m P Q f g = refl

-- a new item changes nothing before the others
pub joined_if_old : (x : Bool) (R : Order) (i n : ℕ) (P : ℕ → Bool) (a b : ℕ) → R i b ≡ false → (b ≡ i → ⊥) → joined_if x R i n P a b ≡ R a b
unfolding joined_if joined
joined_if_old true R i n P a b h d = rw (h, ne_eqb b i d) (or_nothing (R a b))
joined_if_old false R i n P a b h d = refl
