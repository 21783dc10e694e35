-- Sets of the numbers below n, one number more. Assumes nothing.
use mathlib.Core.Path.{◌≡◌, refl, sym, ◌∙◌, ap}
use mathlib.Core.Logic.{⊎_elim}
use mathlib.Core.Bool.{Bool, true, false, ◌&&◌, ◌||◌}
use Prim.Native.Nat.{ℕ, ◌+◌, ◌^◌, ◌<◌}
use native.Mathlib.Numerals.{add-one}
use native.Mathlib.Omega.{arith}
use lib.Dec.{eqb, ltb}
use lib.Bits.{bit_or}
use borrow.Author.Tests.{eqb-true, eqb-false, lt-ltb, le-ltb, ltb-true, ltb-false}
use Rattle.words.specs.Small.{some_below}
use Rattle.words.specs.Sets.{has}
use Rattle.words.proofs.Bools.{decide}
use Rattle.words.proofs.Sets.{has_or, has_one}
use Rattle.orders.specs.Rows.{SetOf}

pub below_none : (f : ℕ → Bool) → false ≡ some_below 0 f
unfolding some_below
below_none f = refl

-- some number below n + 1: n, or one below n
pub below_next : (n : ℕ) (f : ℕ → Bool) (b h : Bool) → b ≡ some_below n f → h ≡ f n → (h || b) ≡ some_below (n + 1) f
unfolding some_below
below_next n f b h hb hh = rw (add-one, hb, hh)

pub ltb_next : (e n : ℕ) → (e ≡ n → ⊥) → ltb e (n + 1) ≡ ltb e n
ltb_next e n h = ⊎_elim (λ k. lt-ltb e (n + 1) (omega (arith, ltb-true e n k)) ∙ sym k) (λ k. le-ltb e (n + 1) (omega (arith, ltb-false e n k)) ∙ sym k) (decide (ltb e n))

module _ (n : ℕ) (P : ℕ → Bool) (x : ℕ) (set : SetOf n P x) where
  pub set_with : P n ≡ true → SetOf (n + 1) P (bit_or (2 ^ n) x)
  set_with h e = has_or (2 ^ n) x e ∙ ap (λ (b : Bool). b || has x e) (has_one n e) ∙ ⊎_elim same other (decide (eqb e n))
    where
      same : eqb e n ≡ true → (eqb e n || has x e) ≡ (ltb e (n + 1) && P e)
      same k = rw (k, eqb-true e n k, lt-ltb n (n + 1) (omega arith), h)

      other : eqb e n ≡ false → (eqb e n || has x e) ≡ (ltb e (n + 1) && P e)
      other k = rw (k, ltb_next e n (eqb-false e n k)) (set e)

  pub set_without : P n ≡ false → SetOf (n + 1) P x
  set_without h e = ⊎_elim same other (decide (eqb e n))
    where
      same : eqb e n ≡ true → has x e ≡ (ltb e (n + 1) && P e)
      same k = set e ∙ rw (eqb-true e n k, le-ltb n n (omega arith), lt-ltb n (n + 1) (omega arith), h)

      other : eqb e n ≡ false → has x e ≡ (ltb e (n + 1) && P e)
      other k = set e ∙ ap (λ (b : Bool). b && P e) (sym (ltb_next e n (eqb-false e n k)))

  pub set_at : (e : ℕ) → e < n → has x e ≡ P e
  set_at e h = set e ∙ rw (lt-ltb e n h)
