-- Of finitely many items of a strict order, one that no other stands after. Assumes nothing.
use mathlib.Core.Path.{◌≡◌, refl, ◌∙◌, ap}
use mathlib.Core.Logic.{⊎_elim}
use mathlib.Core.Bool.{Bool, true, false, ◌&&◌, ◌||◌}
use Prim.Native.Nat.{ℕ, zero, suc}
use Rattle.words.specs.Small.{some_below}
use Rattle.words.proofs.Bools.{decide, and_both, and_make, and_right, below_fewer}
use Rattle.rules.specs.Order.{Order}
use Rattle.rules.proofs.Closed.{Transitive}

-- of the items that pass a test, one is there; so there is one after which, below n, no other stands
pub last_of : (R : Order) → Transitive R → ((a : ℕ) → R a a ≡ true → ⊥) → (P : ℕ → Bool) (n x : ℕ) → P x ≡ true → (e : ℕ) × (P e ≡ true) × (some_below n (λ w. P w && R e w) ≡ false)
unfolding some_below
last_of R t i P zero x h = (x, h, refl)
last_of R t i P (suc n) x h = step (last_of R t i P n x h)
  where
    Last : ℕ → Type 0
    Last m = (e : ℕ) × (P e ≡ true) × (some_below m (λ w. P w && R e w) ≡ false)

    step : Last n → (e : ℕ) × (P e ≡ true) × (((P n && R e n) || some_below n (λ w. P w && R e w)) ≡ false)
    step (e, q, f) = ⊎_elim later same (decide (P n && R e n))
      where
        later : (P n && R e n) ≡ true → (d : ℕ) × (P d ≡ true) × (((P n && R d n) || some_below n (λ w. P w && R d w)) ≡ false)
        later y =
            let b = and_both (P n) (R e n) y in
            (n, b.0, rw (⊎_elim (λ z. absurd (i n z)) (λ z. ap (λ (r : Bool). P n && r) z ∙ and_right (P n) false refl) (decide (R n n))) (below_fewer n (λ w. P w && R e w) (λ w. P w && R n w) (λ w l z. let u = and_both (P w) (R n w) z in and_make (P w) (R e w) u.0 (t e n w b.1 u.1)) f))

        same : (P n && R e n) ≡ false → (d : ℕ) × (P d ≡ true) × (((P n && R d n) || some_below n (λ w. P w && R d w)) ≡ false)
        same y = (e, q, rw (y, f) refl)
