-- Bits of sums of masks. Assumes nothing.
use mathlib.Core.Path.{◌≡◌, refl, sym, ◌∙◌, ap, subst}
use mathlib.Core.Logic.{◌⊎◌, inl, inr, ⊎_elim}
use mathlib.Core.Bool.{Bool, true, false, ◌||◌}
use Prim.Native.Nat.{ℕ, zero, suc, ◌+◌, ◌*◌, ◌-◌, ◌^◌, ◌/◌, ◌%◌, ◌≤◌, ◌<◌, max}
use native.Mathlib.Nat.{one-mul, div-eq_of_lt, mod-eq_of_lt, le_trans}
use native.Mathlib.Omega.{arith}
use native.Mathlib.Decide.{dec_lt}
use lib.Dec.{eqb}
use lib.Bits.{bit_or, or_shr, or_step, shifted_even}
use lib.Pow.{pow-lt, pow_mono, pow-add, shl-shr}
use borrow.Author.Tests.{eqb-true, eqb-false, eq-eqb, ne_eqb}
use Rattle.words.specs.Sets.{has}
use Rattle.words.proofs.Bools.{decide}

one_of : (x y : ℕ) → x < 2 → y < 2 → eqb (max x y) 1 ≡ (eqb x 1 || eqb y 1)
one_of zero zero h k = refl
one_of zero (suc zero) h k = refl
one_of (suc zero) zero h k = refl
one_of (suc zero) (suc zero) h k = refl
one_of zero (suc (suc y)) h k = absurd (omega arith)
one_of (suc zero) (suc (suc y)) h k = absurd (omega arith)
one_of (suc (suc x)) y h k = absurd (omega arith)

or_odd : (x y : ℕ) → bit_or x y % 2 ≡ max (x % 2) (y % 2)
or_odd x y = omega (arith, or_step x y)

pub has_or : (x y a : ℕ) → has (bit_or x y) a ≡ (has x a || has y a)
has_or x y a = ap (λ (n : ℕ). eqb (n % 2) 1) (or_shr x y a) ∙ ap (λ (n : ℕ). eqb n 1) (or_odd (x / 2 ^ a) (y / 2 ^ a)) ∙ one_of (x / 2 ^ a % 2) (y / 2 ^ a % 2) (omega arith) (omega arith)

pub has_zero : (a : ℕ) → has 0 a ≡ false
has_zero a = ne_eqb (0 / 2 ^ a % 2) 1 (λ h. absurd (omega (arith, ap (λ (n : ℕ). n % 2) (zero-div a), h)))
  where
    zero-div : (a : ℕ) → 0 / 2 ^ a ≡ 0
    zero-div a = div-eq_of_lt (lib.Pow.pow_pos a)

-- a word has no bit past its width
pub has_high : (x a : ℕ) → x < 2 ^ 64 → 64 ≤ a → has x a ≡ false
has_high x a h k = ne_eqb (x / 2 ^ a % 2) 1 (λ q. absurd (omega (arith, ap (λ (n : ℕ). n % 2) (gone x a (less_pow a k x h)), q)))
  where
    gone : (x a : ℕ) → x < 2 ^ a → x / 2 ^ a ≡ 0
    gone x a h = div-eq_of_lt h

    less_pow : (a : ℕ) → 64 ≤ a → (x : ℕ) → x < 2 ^ 64 → x < 2 ^ a
    less_pow a k x h = le_trans h (pow_mono k)

higher : (e d : ℕ) → 2 ^ (e + suc d) / 2 ^ e % 2 ≡ 0
higher e d =
    ap (λ (n : ℕ). n / 2 ^ e % 2) (ap (λ (n : ℕ). 2 ^ n) (omega arith) ∙ pow-add 2 (suc d) e)
    ∙ ap (λ (n : ℕ). n % 2) (shl-shr (2 ^ suc d) e)
    ∙ ap (λ (n : ℕ). n % 2) (sym (one-mul (2 ^ suc d)))
    ∙ shifted_even 1 d

-- the one item of a set of one
pub has_one : (e a : ℕ) → has (2 ^ e) a ≡ eqb a e
has_one e a = ⊎_elim same other (decide (eqb a e))
  where
    same : eqb a e ≡ true → has (2 ^ e) a ≡ eqb a e
    same h = rw (h, eqb-true a e h) (eq-eqb (2 ^ e / 2 ^ e % 2) 1 (ap (λ (n : ℕ). n / 2 ^ e % 2) (sym (one-mul (2 ^ e))) ∙ ap (λ (n : ℕ). n % 2) (shl-shr 1 e)))

    below : a < e → 2 ^ e / 2 ^ a % 2 ≡ 0
    below h = subst (λ (n : ℕ). 2 ^ n / 2 ^ a % 2 ≡ 0) (omega arith) (higher a (e - a - 1))

    above : e < a → 2 ^ e / 2 ^ a % 2 ≡ 0
    above h = ap (λ (n : ℕ). n % 2) (div-eq_of_lt (pow-lt h))

    zeroed : (a ≡ e → ⊥) → 2 ^ e / 2 ^ a % 2 ≡ 0
    zeroed h = elim (dec_lt a e) [ yes k ↦ below k | no k ↦ above (omega arith) ]

    other : eqb a e ≡ false → has (2 ^ e) a ≡ eqb a e
    other h = rw h (ne_eqb (2 ^ e / 2 ^ a % 2) 1 (λ q. absurd (omega (arith, zeroed (eqb-false a e h), q))))
