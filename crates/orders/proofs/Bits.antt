-- Bits of words: one without another, what two have in common, digits one by one. Assumes nothing.
use mathlib.Core.Path.{◌≡◌, refl, sym, ap, ◌∙◌}
use mathlib.Core.Logic.{⊎_elim}
use mathlib.Core.Bool.{true, false, ◌&&◌, not}
use Prim.Native.Nat.{ℕ, zero, suc, ◌+◌, ◌-◌, ◌/◌, ◌%◌, ◌^◌, ◌≤◌, ◌<◌, min}
use native.Mathlib.Nat.{pow-suc}
use native.Mathlib.Omega.{arith}
use native.Mathlib.Decide.{dec_lt}
use lib.Arith.{digits_mod}
use lib.Bits.{bit_and, bit_xor, differ, and_shr, xor_shr, and_step, xor_step}
use lib.Dec.{eqb, ltb}
use lib.Pow.{shr-shr, pow_pos}
use borrow.Author.Tests.{eq-eqb, ne_eqb, lt-ltb, le-ltb, ltb-true, ltb-false}
use Rattle.words.specs.Sets.{has}
use Rattle.words.proofs.Bools.{decide}
use Rattle.words.proofs.Sets.{has_zero}

low : (a : ℕ) → a % 2 < 2
low a = omega arith

less_digit : (m n : ℕ) → m < 2 → n < 2 → eqb (differ m (min m n)) 1 ≡ (eqb m 1 && not (eqb n 1))
less_digit zero zero h g = refl
less_digit zero (suc zero) h g = refl
less_digit zero (suc (suc n)) h g = absurd (omega arith)
less_digit (suc zero) zero h g = refl
less_digit (suc zero) (suc zero) h g = refl
less_digit (suc zero) (suc (suc n)) h g = absurd (omega arith)
less_digit (suc (suc m)) n h g = absurd (omega arith)

differ_low : (m n : ℕ) → m < 2 → n < 2 → differ m n < 2
differ_low zero n h g = g
differ_low (suc zero) zero h g = h
differ_low (suc zero) (suc zero) h g = omega arith
differ_low (suc zero) (suc (suc n)) h g = absurd (omega arith)
differ_low (suc (suc m)) n h g = absurd (omega arith)

and_odd : (x y : ℕ) → bit_and x y % 2 ≡ min (x % 2) (y % 2)
and_odd x y = ap (λ (z : ℕ). z % 2) (and_step x y) ∙ digits_mod (bit_and (x / 2) (y / 2)) (omega (arith, low x, low y))

xor_odd : (x y : ℕ) → bit_xor x y % 2 ≡ differ (x % 2) (y % 2)
xor_odd x y = ap (λ (z : ℕ). z % 2) (xor_step x y) ∙ digits_mod (bit_xor (x / 2) (y / 2)) (differ_low (x % 2) (y % 2) (low x) (low y))

-- the digit of both at a
and_at : (x y a : ℕ) → bit_and x y / 2 ^ a % 2 ≡ min (x / 2 ^ a % 2) (y / 2 ^ a % 2)
and_at x y a = ap (λ (z : ℕ). z % 2) (and_shr x y a) ∙ and_odd (x / 2 ^ a) (y / 2 ^ a)

-- x without what it has in common with y
pub has_less : (x y a : ℕ) → has (bit_xor x (bit_and x y)) a ≡ (has x a && not (has y a))
has_less x y a =
    ap (λ (z : ℕ). eqb z 1) (ap (λ (z : ℕ). z % 2) (xor_shr x (bit_and x y) a) ∙ xor_odd (x / 2 ^ a) (bit_and x y / 2 ^ a) ∙ ap (differ (x / 2 ^ a % 2)) (and_at x y a))
    ∙ less_digit (x / 2 ^ a % 2) (y / 2 ^ a % 2) (low (x / 2 ^ a)) (low (y / 2 ^ a))

both-digit : (m n : ℕ) → m < 2 → n < 2 → eqb (min m n) 1 ≡ (eqb m 1 && eqb n 1)
both-digit zero zero h g = refl
both-digit zero (suc zero) h g = refl
both-digit zero (suc (suc n)) h g = absurd (omega arith)
both-digit (suc zero) zero h g = refl
both-digit (suc zero) (suc zero) h g = refl
both-digit (suc zero) (suc (suc n)) h g = absurd (omega arith)
both-digit (suc (suc m)) n h g = absurd (omega arith)

-- what two have in common
pub has_and : (x y a : ℕ) → has (bit_and x y) a ≡ (has x a && has y a)
has_and x y a = ap (λ (z : ℕ). eqb z 1) (and_at x y a) ∙ both-digit (x / 2 ^ a % 2) (y / 2 ^ a % 2) (low (x / 2 ^ a)) (low (y / 2 ^ a))

-- digits one by one

pub half_bit : (x a : ℕ) → has (x / 2) a ≡ has x (suc a)
half_bit x a = let q : 1 + a ≡ suc a = omega arith in ap (λ (n : ℕ). eqb (n % 2) 1) (shr-shr x 1 a) ∙ ap (has x) q

pub first_bit : (x : ℕ) → has x 0 ≡ eqb (x % 2) 1
first_bit x = let q : x / 2 ^ 0 ≡ x = omega arith in ap (λ (n : ℕ). eqb (n % 2) 1) q

pub first_set : (x : ℕ) → x % 2 ≡ 1 → has x 0 ≡ true
first_set x h = first_bit x ∙ eq-eqb (x % 2) 1 h

pub first_clear : (x : ℕ) → x % 2 ≡ 0 → has x 0 ≡ false
first_clear x h = first_bit x ∙ ne_eqb (x % 2) 1 (λ q. absurd (omega arith))

-- a number that is not 0 has a bit
pub some_bit : (n x : ℕ) → x ≤ n → (x ≡ 0 → ⊥) → (e : ℕ) × (has x e ≡ true)
some_bit zero x h z = absurd (z (omega arith))
some_bit (suc n) x h z =
    elim (dec_lt (x % 2) 1) [
      | yes k ↦ let r = some_bit n (x / 2) (omega (arith, positive z)) (λ q. z (omega arith)) in (suc r.0, sym (half_bit x r.0) ∙ r.1)
      | no k ↦ (0, first_set x (omega arith))
    ]
  where
    positive : (x ≡ 0 → ⊥) → 0 < x
    positive q = omega arith

ltb-suc : (a b : ℕ) → ltb (suc a) (suc b) ≡ ltb a b
ltb-suc a b = ⊎_elim (λ h. lt-ltb (suc a) (suc b) (omega (arith, ltb-true a b h)) ∙ sym h) (λ h. le-ltb (suc a) (suc b) (omega (arith, ltb-false a b h)) ∙ sym h) (decide (ltb a b))

-- the numbers below n
pub has_ones : (n a : ℕ) → has (2 ^ n - 1) a ≡ ltb a n
has_ones zero a = has_zero a ∙ sym (le-ltb a 0 (omega arith))
has_ones (suc n) zero = first_set (2 ^ suc n - 1) (omega (arith, pow-suc 2 n, pow_pos n)) ∙ sym (lt-ltb 0 (suc n) (omega arith))
has_ones (suc n) (suc a) =
    let q : (2 ^ suc n - 1) / 2 ≡ 2 ^ n - 1 = omega (arith, pow-suc 2 n, pow_pos n) in
    sym (half_bit (2 ^ suc n - 1) a) ∙ ap (λ (x : ℕ). has x a) q ∙ has_ones n a ∙ sym (ltb-suc a n)
