-- The decimal of a number is what `io::decimal` spells, and how long it is. Assumes nothing.
use mathlib.Core.Path.{◌≡◌, sym, ap, ◌∙◌, subst}
use mathlib.Core.List.{List, [], ◌∷◌, ◌++◌}
use Prim.Native.Nat.{ℕ, zero, suc, ◌+◌, ◌/◌, ◌%◌, ◌^◌, ◌≤◌, ◌<◌}
use native.Mathlib.Nat.{pow-suc, one-le-pow}
use native.Mathlib.Omega.{arith}
use native.Mathlib.Decide.{dec_lt}
use lib.Dec.{ltb, lit<}
use lib.ListN.{length, length-append}
use borrow.Author.Tests.{lt-ltb, le-ltb}
use Rattle.words.proofs.Bools.{cond-true, cond-false}
use Rattle.io.specs.Digits.{last_digits, hex_digit_ascii, IsDigitCount}
use Rattle.lines.specs.Decimal.{digits_within, decimal}

low : (most n : ℕ) → n < 10 → digits_within (suc most) n ≡ (48 + n) ∷ []
unfolding digits_within
low most n h = cond-true (ltb n 10) _ _ (lt-ltb n 10 h)

high : (most n : ℕ) → 10 ≤ n → digits_within (suc most) n ≡ digits_within most (n / 10) ++ ((48 + n % 10) ∷ [])
unfolding digits_within
high most n h = cond-false (ltb n 10) _ _ (le-ltb n 10 h)

last : (n : ℕ) → n < 10 → hex_digit_ascii n ≡ 48 + n
last n h = cond-true (ltb n 10) (48 + n) (87 + n) (lt-ltb n 10 h)

-- k digits, the fewest, are all of them
pub spelled : (k most n : ℕ) → n < most → IsDigitCount 10 1 n k → last_digits 10 k n ≡ digits_within most n
spelled k zero n h f = absurd (omega arith)
spelled zero (suc most) n h f = absurd (omega arith)
spelled (suc zero) (suc most) n h f =
    let small : n < 10 = omega (arith, f.1) in
    let same : n % 10 ≡ n = omega arith in
    ap (λ (d : ℕ). hex_digit_ascii d ∷ []) same ∙ ap (λ (b : ℕ). b ∷ []) (last n small) ∙ sym (low most n small)
spelled (suc (suc k)) (suc most) n h f =
    let least : 10 ^ suc k ≤ n = subst (λ (j : ℕ). 10 ^ j ≤ n) (omega arith) (f.2 (omega arith)) in
    let large : 10 ≤ n = omega (arith, pow-suc 10 k, one-le-pow k 10 (lit< tt)) in
    let below : n / 10 < 10 ^ suc k = omega (arith, f.1, pow-suc 10 (suc k)) in
    let above : 10 ^ k ≤ n / 10 = omega (arith, pow-suc 10 k) in
    ap (λ (l : List ℕ). l ++ (hex_digit_ascii (n % 10) ∷ [])) (spelled (suc k) most (n / 10) (omega arith) (omega arith, below, λ _. subst (λ (j : ℕ). 10 ^ j ≤ n / 10) (omega arith) above))
    ∙ ap (λ (b : ℕ). digits_within most (n / 10) ++ (b ∷ [])) (last (n % 10) (omega arith))
    ∙ sym (high most n large)

-- HOW LONG IT IS: a number below 10 ^ (k + 1) has at most k + 1 digits

few_more : (k most n : ℕ) → 10 ≤ n → n < 10 ^ suc k → ((j : ℕ) → n / 10 < 10 ^ suc j → length (digits_within most (n / 10)) ≤ suc j) → length (digits_within (suc most) n) ≤ suc k
few_more zero most n l h rest = absurd (omega arith)
few_more (suc k) most n l h rest =
    omega (arith, rest k (omega (arith, pow-suc 10 (suc k))), ap length (high most n l), length-append (digits_within most (n / 10)) ((48 + n % 10) ∷ []))

few : (k most n : ℕ) → n < 10 ^ suc k → length (digits_within most n) ≤ suc k
unfolding digits_within
few k zero n h = omega arith
few k (suc most) n h =
    elim (dec_lt n 10) [
      | yes l ↦ omega (arith, ap length (low most n l))
      | no l ↦ few_more k most n (omega arith) h (λ j. few j most (n / 10))
    ]

pub decimal_few : (k n : ℕ) → n < 10 ^ suc k → length (decimal n) ≤ suc k
decimal_few k n h = few k (suc n) n h
