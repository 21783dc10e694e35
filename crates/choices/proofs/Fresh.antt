-- The first position of a word that is not spent. Assumes nothing.
use mathlib.Core.Path.{◌≡◌, sym, ap, subst, ◌∙◌}
use mathlib.Core.Logic.{⊎_elim}
use mathlib.Core.Bool.{Bool, true, false, ◌&&◌, not, false≢true}
use mathlib.Core.List.{List}
use Prim.Native.Nat.{ℕ, suc, ◌+◌, ◌*◌, ◌-◌, ◌^◌, ◌/◌, ◌%◌, ◌<◌, ◌≤◌}
use native.Mathlib.Nat.{mod-eq_of_lt, mul_assoc}
use native.Mathlib.Omega.{arith}
use native.Mathlib.Decide.{dec_lt}
use lib.Bits.{shifted_even}
use lib.Dec.{eqb}
use lib.Pow.{pow-add, shl-shr, shr-shr, split}
use borrow.Author.Tests.{eqb-true, ne_eqb}
use Rattle.words.specs.Sets.{has}
use Rattle.words.proofs.Bools.{decide, and_both, and_true}
use Rattle.words.proofs.Sets.{has_zero}
use Rattle.orders.specs.Least.{Least}
use Rattle.spending.specs.Words.{key_at, spent_by}
use Rattle.choices.specs.Finding.{FirstFresh}
use Rattle.choices.specs.Given.{Stretch}

-- the numbers of a set from k on

from_high : (x k a : ℕ) → k ≤ a → has (x / 2 ^ k * 2 ^ k) a ≡ has x a
from_high x k a h =
    let q : k + (a - k) ≡ a = omega arith in
    ap (λ (n : ℕ). eqb (n % 2) 1)
    (ap (λ (n : ℕ). x / 2 ^ k * 2 ^ k / 2 ^ n) (sym q)
    ∙ sym (shr-shr (x / 2 ^ k * 2 ^ k) k (a - k))
    ∙ ap (λ (n : ℕ). n / 2 ^ (a - k)) (shl-shr (x / 2 ^ k) k)
    ∙ shr-shr x k (a - k)
    ∙ ap (λ (n : ℕ). x / 2 ^ n) q)

from_low : (y k a : ℕ) → a < k → has (y * 2 ^ k) a ≡ false
from_low y k a h =
    let q : k ≡ suc (k - a - 1) + a = omega arith in
    let z : y * 2 ^ k / 2 ^ a % 2 ≡ 0 =
    ap (λ (n : ℕ). y * 2 ^ n / 2 ^ a % 2) q
    ∙ ap (λ (n : ℕ). y * n / 2 ^ a % 2) (pow-add 2 (suc (k - a - 1)) a)
    ∙ ap (λ (n : ℕ). n / 2 ^ a % 2) (sym (mul_assoc y (2 ^ suc (k - a - 1)) (2 ^ a)))
    ∙ ap (λ (n : ℕ). n % 2) (shl-shr (y * 2 ^ suc (k - a - 1)) a)
    ∙ shifted_even y (k - a - 1) in
    ne_eqb (y * 2 ^ k / 2 ^ a % 2) 1 (λ o. absurd (omega (arith, z, o)))

-- Of the numbers of the word from that of j on, the rest has some, and the others are spent.
pub record Remains (word : ℕ) (now : List ℕ) (j rest : ℕ) : Type 0 where
  pub inside : (a : ℕ) → has rest a ≡ true → (j % 64 ≤ a) × (has word a ≡ true)
  pub gone : (a : ℕ) → j % 64 ≤ a → has word a ≡ true → has rest a ≡ false → spent_by now (key_at (64 * (j / 64) + a)) ≡ true

module _ (word : ℕ) (now : List ℕ) (j : ℕ) where
  all_remain : Remains word now j (word / 2 ^ (j % 64) * 2 ^ (j % 64))
  all_remain =
      record {
        inside = λ a h.
            elim (dec_lt a (j % 64)) [
              | yes l ↦ absurd (false≢true (sym (from_low (word / 2 ^ (j % 64)) (j % 64) a l) ∙ h))
              | no l ↦ let m : j % 64 ≤ a = omega arith in (m, sym (from_high word (j % 64) a m) ∙ h)
            ];
        gone = λ a l h f. absurd (false≢true (sym f ∙ from_high word (j % 64) a l ∙ h));
      }

  pub remain_first : word < 2 ^ 64 → Remains word now j (word / 2 ^ (j % 64) * 2 ^ (j % 64) % 2 ^ 64)
  remain_first h = subst (Remains word now j) (sym (mod-eq_of_lt (omega (arith, split word (j % 64))))) all_remain

  module _ (end : ℕ) (S : Stretch j end) (rest : ℕ) (R : Remains word now j rest) where
    -- what is below the rest is spent
    skips : (z : ℕ) → ((a : ℕ) → a < z → has rest a ≡ false) → (r : ℕ) → r ≤ end → r ≤ 64 * (j / 64) + z → (q : ℕ) → j ≤ q → q < r → has word (q % 64) ≡ true → spent_by now (key_at q) ≡ true
    skips z f r u v q a b x =
        let w : q / 64 ≡ j / 64 = S.one q a (omega arith) in
        let e : 64 * (j / 64) + q % 64 ≡ q = omega (arith, w) in
        subst (λ (n : ℕ). spent_by now (key_at n) ≡ true) e (R.gone (q % 64) (omega (arith, w)) x (f (q % 64) (omega (arith, w))))

    pub fresh-none : rest ≤ 0 → FirstFresh word now j end end
    fresh-none h =
        let z : 0 ≡ rest = omega arith in
        record { from = S.from; upto = omega arith; skipped = skips end (λ a l. subst (λ (n : ℕ). has n a ≡ false) z (has_zero a)) end (omega arith) (omega arith); found = λ k. absurd (omega arith) }

    module _ (z : ℕ) (L : Least rest z) where
      pub fresh_past : end ≤ 64 * (j / 64) + z → FirstFresh word now j end end
      fresh_past h = record { from = S.from; upto = omega arith; skipped = skips z L.first end (omega arith) h; found = λ k. absurd (omega arith) }

      pub fresh_here : 0 < rest → 64 * (j / 64) + z < end → spent_by now (key_at (64 * (j / 64) + z)) ≡ false → FirstFresh word now j end (64 * (j / 64) + z)
      fresh_here p h f =
          let l : z < 64 = L.low p in
          let i = R.inside z (L.inside l) in
          let m : z ≡ (64 * (j / 64) + z) % 64 = omega arith in
          record {
            from = omega (arith, i.0);
            upto = omega arith;
            skipped = skips z L.first (64 * (j / 64) + z) (omega arith) (omega arith);
            found = λ k. (subst (λ (n : ℕ). has word n ≡ true) m i.1, f);
          }

      pub remain_others : spent_by now (key_at (64 * (j / 64) + z)) ≡ true → (fewer : ℕ) → ((a : ℕ) → has fewer a ≡ (has rest a && not (eqb a z))) → Remains word now j fewer
      remain_others y fewer o =
          record {
            inside = λ a h. R.inside a (and_both _ _ (sym (o a) ∙ h)).0;
            gone = λ a l h f.
                ⊎_elim
                (λ e. subst (λ (n : ℕ). spent_by now (key_at (64 * (j / 64) + n)) ≡ true) (sym (eqb-true a z e)) y)
                (λ e. R.gone a l h (sym (ap (λ (b : Bool). has rest a && not b) e ∙ and_true (has rest a)) ∙ sym (o a) ∙ f))
                (decide (eqb a z));
          }
