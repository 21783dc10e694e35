-- Byte order is a strict total order. Assumes nothing.
use mathlib.Core.Path.{◌≡◌, refl, sym, ◌∙◌}
use mathlib.Core.Logic.{◌⊎◌, inl, inr, ⊎_elim}
use mathlib.Core.Bool.{Bool, true, false, ◌&&◌, false≢true}
use mathlib.Core.List.{List, [], ◌∷◌, ◌++◌}
use Prim.Native.Nat.{ℕ, ◌<◌}
use native.Mathlib.Omega.{arith}
use lib.Dec.{eqb, ltb}
use lib.ListN.{length}
use borrow.Author.Tests.{ltb-true, ltb-false, lt-ltb, eqb-true, eq-eqb}
use Rattle.words.proofs.Bools.{or_cases, or_left, or_right, or_none, and_both, and_make}
use Rattle.runs.specs.Listing.{below}

-- the first bytes decide, or are equal and the rest does
abbrev pub First : ℕ → ℕ → List ℕ → List ℕ → Type 0
First x y xs ys = (x < y) ⊎ ((x ≡ y) × (below xs ys ≡ true))

module _ (x y : ℕ) (xs ys : List ℕ) where
  pub first : below (x ∷ xs) (y ∷ ys) ≡ true → First x y xs ys
  first h = step (or_cases (ltb x y) (eqb x y && below xs ys) h)
    where
      step : (ltb x y ≡ true) ⊎ ((eqb x y && below xs ys) ≡ true) → (x < y) ⊎ ((x ≡ y) × (below xs ys ≡ true))
      step (inl p) = inl (ltb-true x y p)
      step (inr p) = let w = and_both (eqb x y) (below xs ys) p in inr (eqb-true x y w.0, w.1)

  first_less : x < y → below (x ∷ xs) (y ∷ ys) ≡ true
  first_less h = or_left (ltb x y) _ (lt-ltb x y h)

  first_same : x ≡ y → below xs ys ≡ true → below (x ∷ xs) (y ∷ ys) ≡ true
  first_same e h = or_right (ltb x y) _ (and_make (eqb x y) (below xs ys) (eq-eqb x y e) h)

pub below_irrefl : (a : List ℕ) → below a a ≡ true → ⊥
below_irrefl [] h = false≢true h
below_irrefl (x ∷ xs) h = step (below_irrefl xs) (first x x xs xs h)
  where
    step : (below xs xs ≡ true → ⊥) → (x < x) ⊎ ((x ≡ x) × (below xs xs ≡ true)) → ⊥
    step more (inl p) = omega arith
    step more (inr p) = more p.1

pub below_trans : (a b c : List ℕ) → below a b ≡ true → below b c ≡ true → below a c ≡ true
below_trans [] [] c h k = absurd (false≢true h)
below_trans [] (y ∷ ys) [] h k = k
below_trans [] (y ∷ ys) (z ∷ zs) h k = refl
below_trans (x ∷ xs) [] c h k = absurd (false≢true h)
below_trans (x ∷ xs) (y ∷ ys) [] h k = k
below_trans (x ∷ xs) (y ∷ ys) (z ∷ zs) h k = step (below_trans xs ys zs) (first x y xs ys h) (first y z ys zs k)
  where
    step : (below xs ys ≡ true → below ys zs ≡ true → below xs zs ≡ true) → (x < y) ⊎ ((x ≡ y) × (below xs ys ≡ true)) → (y < z) ⊎ ((y ≡ z) × (below ys zs ≡ true)) → below (x ∷ xs) (z ∷ zs) ≡ true
    step more (inl p) (inl q) = first_less x z xs zs (omega arith)
    step more (inl p) (inr q) = first_less x z xs zs (omega (arith, q.0))
    step more (inr p) (inl q) = first_less x z xs zs (omega (arith, p.0))
    step more (inr p) (inr q) = first_same x z xs zs (p.0 ∙ q.0) (more p.1 q.1)

pub below_asym : (a b : List ℕ) → below a b ≡ true → below b a ≡ true → ⊥
below_asym a b h k = below_irrefl a (below_trans a b a h k)

-- two lists of which neither is below the other are equal
pub below_total : (a b : List ℕ) → below a b ≡ false → below b a ≡ false → a ≡ b
below_total [] [] h k = refl
below_total [] (y ∷ ys) h k = absurd (false≢true (sym h))
below_total (x ∷ xs) [] h k = absurd (false≢true (sym k))
below_total (x ∷ xs) (y ∷ ys) h k =
    let p = or_none (ltb x y) (eqb x y && below xs ys) h in
    let q = or_none (ltb y x) (eqb y x && below ys xs) k in
    let e : x ≡ y = omega (arith, ltb-false x y p.0, ltb-false y x q.0) in
    let t = below_total xs ys (right (eqb x y) (below xs ys) (eq-eqb x y e) p.1) (right (eqb y x) (below ys xs) (eq-eqb y x (sym e)) q.1) in
    λ i. e i ∷ t i
  where
    right : (a b : Bool) → a ≡ true → (a && b) ≡ false → b ≡ false
    right true b h k = k
    right false b h k = absurd (false≢true h)

-- lists that begin with equally many bytes: these decide, or are equal and what follows does
pub below_first : (a b x y : List ℕ) → length a ≡ length b → below (a ++ x) (b ++ y) ≡ true → (below a b ≡ true) ⊎ ((a ≡ b) × (below x y ≡ true))
below_first [] [] x y l h = inr (refl, h)
below_first [] (q ∷ b) x y l h = absurd (omega arith)
below_first (p ∷ a) [] x y l h = absurd (omega arith)
below_first (p ∷ a) (q ∷ b) x y l h = step (below_first a b x y (omega arith)) (first p q (a ++ x) (b ++ y) h)
  where
    more : p ≡ q → (below a b ≡ true) ⊎ ((a ≡ b) × (below x y ≡ true)) → (below (p ∷ a) (q ∷ b) ≡ true) ⊎ ((p ∷ a ≡ q ∷ b) × (below x y ≡ true))
    more e (inl k) = inl (first_same p q a b e k)
    more e (inr k) = inr (λ i. e i ∷ k.0 i, k.1)

    step : (below (a ++ x) (b ++ y) ≡ true → (below a b ≡ true) ⊎ ((a ≡ b) × (below x y ≡ true))) → (p < q) ⊎ ((p ≡ q) × (below (a ++ x) (b ++ y) ≡ true))
        → (below (p ∷ a) (q ∷ b) ≡ true) ⊎ ((p ∷ a ≡ q ∷ b) × (below x y ≡ true))
    step rest (inl k) = inl (first_less p q a b k)
    step rest (inr k) = more k.0 (rest k.1)

-- the same beginning counts for nothing
pub below-drop : (a x y : List ℕ) → below (a ++ x) (a ++ y) ≡ true → below x y ≡ true
below-drop a x y h = ⊎_elim (λ b. absurd (below_irrefl a b)) (λ w. w.1) (below_first a a x y refl h)
