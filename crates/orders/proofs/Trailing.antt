-- The lowest bit of a word, and the word without it. Assumes nothing.
use mathlib.Core.Path.{◌≡◌, refl, sym, ap, subst, ◌∙◌}
use mathlib.Core.Logic.{⊎_elim}
use mathlib.Core.Bool.{Bool, true, false, ◌&&◌, not, false≢true}
use Prim.Native.Nat.{ℕ, zero, suc, ◌-◌, ◌/◌, ◌%◌, ◌^◌, ◌<◌}
use native.Mathlib.Omega.{arith}
use native.Mathlib.Decide.{dec_lt}
use lib.Bits.{bit_and, and_le_r}
use lib.Count.{under, count_trailing_zeros, trailing_le}
use lib.Dec.{eqb}
use borrow.Author.Tests.{eqb-true, eqb-false, eq-eqb, ne_eqb}
use Rattle.words.specs.Sets.{has}
use Rattle.words.proofs.Bools.{decide, and_right, and_true}
use Rattle.words.proofs.Sets.{has_zero, has_high}
use Rattle.orders.specs.Least.{Least}
use Rattle.orders.proofs.Bits.{has_and, half_bit, first_bit, first_set, first_clear, some_bit}

eqb-suc : (a b : ℕ) → eqb (suc a) (suc b) ≡ eqb a b
eqb-suc a b = ⊎_elim (λ h. eq-eqb (suc a) (suc b) (ap suc (eqb-true a b h)) ∙ sym h) (λ h. ne_eqb (suc a) (suc b) (λ q. omega (arith, eqb-false a b h)) ∙ sym h) (decide (eqb a b))

inside_under : (x t : ℕ) → has (x / 2) t ≡ true → (d : ℕ) → x % 2 ≡ d → has x (under d t) ≡ true
inside_under x t h zero e = sym (half_bit x t) ∙ h
inside_under x t h (suc d) e = first_set x (omega arith)

under_low : (k t d : ℕ) → d ≡ 0 → under d t < suc k → t < k
under_low k t zero e h = omega arith
under_low k t (suc d) e h = absurd (omega arith)

trailing_inside : (k x : ℕ) → count_trailing_zeros k x < k → has x (count_trailing_zeros k x) ≡ true
unfolding count_trailing_zeros
trailing_inside zero x h = absurd (omega arith)
trailing_inside (suc k) x h =
    elim (dec_lt (x % 2) 1) [
      | yes l ↦ inside_under x (count_trailing_zeros k (x / 2)) (trailing_inside k (x / 2) (under_low k (count_trailing_zeros k (x / 2)) (x % 2) (omega arith) h)) (x % 2) refl
      | no l ↦ let q : x % 2 ≡ 1 = omega arith in subst (λ (d : ℕ). has x (under d (count_trailing_zeros k (x / 2))) ≡ true) (sym q) (first_set x q)
    ]

first_under : (x t : ℕ) → ((a : ℕ) → a < t → has (x / 2) a ≡ false) → (d : ℕ) → x % 2 ≡ d → (a : ℕ) → a < under d t → has x a ≡ false
first_under x t f zero e zero h = first_clear x e
first_under x t f zero e (suc a) h = sym (half_bit x a) ∙ f a (omega arith)
first_under x t f (suc d) e a h = absurd (omega arith)

trailing_first : (k x a : ℕ) → a < count_trailing_zeros k x → has x a ≡ false
unfolding count_trailing_zeros
trailing_first zero x a h = absurd (omega arith)
trailing_first (suc k) x a h = first_under x (count_trailing_zeros k (x / 2)) (trailing_first k (x / 2)) (x % 2) refl a h

-- there is one where the word is not 0
trailing_low : (x : ℕ) → x < 2 ^ 64 → 0 < x → count_trailing_zeros 64 x < 64
trailing_low x w p =
    let r = some_bit x x (omega arith) (λ q. omega arith) in
    elim (dec_lt (count_trailing_zeros 64 x) 64) [
      | yes h ↦ h
      | no h ↦
          elim (dec_lt r.0 64) [
            | yes k ↦ absurd (false≢true (sym (trailing_first 64 x r.0 (omega arith)) ∙ r.1))
            | no k ↦ absurd (false≢true (sym (has_high x r.0 w (omega arith)) ∙ r.1))
          ]
    ]

pub least_trailing : (x : ℕ) → x < 2 ^ 64 → Least x (count_trailing_zeros 64 x)
least_trailing x w = record { upto = trailing_le 64 x; low = trailing_low x w; inside = trailing_inside 64 x; first = trailing_first 64 x }

and_self : (b : Bool) → (b && b) ≡ b
and_self true = refl
and_self false = refl

-- the number before x has the bits of x above its lowest
lowest_off : (e x : ℕ) → has x e ≡ true → ((a : ℕ) → a < e → has x a ≡ false) → (a : ℕ) → (has x a && has (x - 1) a) ≡ (has x a && not (eqb a e))
lowest_off zero x t f zero = and_right (has x 0) (has (x - 1) 0) (first_clear (x - 1) (omega (arith, eqb-true (x % 2) 1 (sym (first_bit x) ∙ t)))) ∙ sym (and_right (has x 0) false refl)
lowest_off zero x t f (suc a) =
    let q : (x - 1) / 2 ≡ x / 2 = omega (arith, eqb-true (x % 2) 1 (sym (first_bit x) ∙ t)) in
    ap (λ (b : Bool). has x (suc a) && b) (sym (half_bit (x - 1) a) ∙ ap (λ (n : ℕ). has n a) q ∙ half_bit x a) ∙ and_self (has x (suc a)) ∙ sym (and_true (has x (suc a))) ∙ ap (λ (b : Bool). has x (suc a) && not b) (sym (ne_eqb (suc a) 0 (λ z. omega arith)))
lowest_off (suc e) x t f zero = ap (λ (b : Bool). b && has (x - 1) 0) (f 0 (omega arith)) ∙ ap (λ (b : Bool). b && not (eqb 0 (suc e))) (sym (f 0 (omega arith)))
lowest_off (suc e) x t f (suc a) =
    let z : x % 2 ≡ 0 = even x (f 0 (omega arith)) in
    let p : 0 < x = filled x (suc e) t in
    let q : (x - 1) / 2 ≡ x / 2 - 1 = omega arith in
    ap (λ (b : Bool). has x (suc a) && b) (sym (half_bit (x - 1) a) ∙ ap (λ (n : ℕ). has n a) q)
    ∙ ap (λ (b : Bool). b && has (x / 2 - 1) a) (sym (half_bit x a))
    ∙ lowest_off e (x / 2) (half_bit x e ∙ t) (λ b l. half_bit x b ∙ f (suc b) (omega arith)) a
    ∙ (λ j. half_bit x a j && not (sym (eqb-suc a e) j))
  where
    even : (x : ℕ) → has x 0 ≡ false → x % 2 ≡ 0
    even x h = omega (arith, eqb-false (x % 2) 1 (sym (first_bit x) ∙ h))

    filled : (x e : ℕ) → has x e ≡ true → 0 < x
    filled zero e h = absurd (false≢true (sym (has_zero e) ∙ h))
    filled (suc x) e h = omega arith

pub has_others : (x e : ℕ) → Least x e → 0 < x → (a : ℕ) → has (bit_and x (x - 1)) a ≡ (has x a && not (eqb a e))
has_others x e m p a = has_and x (x - 1) a ∙ lowest_off e x (m.inside (m.low p)) m.first a

pub others_less : (x : ℕ) → 0 < x → bit_and x (x - 1) < x
others_less x h = omega (arith, and_le_r x (x - 1))
