-- Two adjacent numbers changed about, and an order with its items changed about. Assumes nothing.
use mathlib.Core.Path.{◌≡◌, refl, sym, ◌∙◌, ap, ap₂, fun_ext}
use mathlib.Core.Logic.{◌⊎◌, inl, inr}
use mathlib.Core.Bool.{Bool, true, false, cond, ◌&&◌, ◌||◌}
use Prim.Native.Nat.{ℕ, suc, ◌+◌, ◌<◌}
use native.Mathlib.Omega.{arith}
use lib.Dec.{eqb}
use borrow.Author.Tests.{eqb-true, eqb-false, eq-eqb}
use Rattle.words.specs.Small.{some_below, put}
use Rattle.words.proofs.Bools.{bool_eq, below_cases, below_make}
use Rattle.rules.specs.Order.{joined_if, joined, Order, up_to}

pub swap : ℕ → ℕ → ℕ
swap n k = cond (eqb k n) (suc n) (cond (eqb k (suc n)) n k)

-- m is what k becomes
pub data View (n k m : ℕ) : Type 0 where
  up : k ≡ n → m ≡ suc n → View n k m
  down : k ≡ suc n → m ≡ n → View n k m
  stay : (k ≡ n → ⊥) → (k ≡ suc n → ⊥) → m ≡ k → View n k m

pub view : (n k : ℕ) → View n k (swap n k)
unfolding swap
view n k = step (eqb k n) (eqb k (suc n)) refl refl
  where
    step : (a b : Bool) → eqb k n ≡ a → eqb k (suc n) ≡ b → View n k (cond a (suc n) (cond b n k))
    step true b p q = up (eqb-true _ _ p) refl
    step false true p q = down (eqb-true _ _ q) refl
    step false false p q = stay (eqb-false _ _ p) (eqb-false _ _ q) refl

pub swap_twice : (n k : ℕ) → swap n (swap n k) ≡ k
swap_twice n k = step (view n k) (view n (swap n k))
  where
    step : View n k (swap n k) → View n (swap n k) (swap n (swap n k)) → swap n (swap n k) ≡ k
    step (up a b) (up d e) = omega arith
    step (up a b) (down d e) = omega arith
    step (up a b) (stay d f e) = omega arith
    step (down a b) (up d e) = omega arith
    step (down a b) (down d e) = omega arith
    step (down a b) (stay d f e) = omega arith
    step (stay a g b) (up d e) = omega arith
    step (stay a g b) (down d e) = omega arith
    step (stay a g b) (stay d f e) = omega arith

pub swap_low : (n k m : ℕ) → k < m → suc n < m → swap n k < m
swap_low n k m h g = step (view n k)
  where
    step : View n k (swap n k) → swap n k < m
    step (up a b) = omega arith
    step (down a b) = omega arith
    step (stay a e b) = omega arith

-- a number beyond stays, and so does one before
pub swap_high : (n k : ℕ) → suc n < k → swap n k ≡ k
swap_high n k h = step (view n k)
  where
    step : View n k (swap n k) → swap n k ≡ k
    step (up a b) = omega arith
    step (down a b) = omega arith
    step (stay a e b) = omega arith

pub swap_small : (n k : ℕ) → k < n → swap n k ≡ k
swap_small n k h = step (view n k)
  where
    step : View n k (swap n k) → swap n k ≡ k
    step (up a b) = omega arith
    step (down a b) = omega arith
    step (stay a e b) = omega arith

pub swap_at : (n k : ℕ) → k ≡ n → swap n k ≡ suc n
swap_at n k h = step (view n k)
  where
    step : View n k (swap n k) → swap n k ≡ suc n
    step (up a b) = omega arith
    step (down a b) = omega arith
    step (stay a e b) = absurd (a h)

pub swap_next : (n k : ℕ) → k ≡ suc n → swap n k ≡ n
swap_next n k h = step (view n k)
  where
    step : View n k (swap n k) → swap n k ≡ n
    step (up a b) = omega arith
    step (down a b) = omega arith
    step (stay a e b) = absurd (e h)

pub swap_eqb : (n a b : ℕ) → eqb (swap n a) b ≡ eqb a (swap n b)
swap_eqb n a b =
    bool_eq _ _
    (λ h. eq-eqb _ _ (sym (swap_twice n a) ∙ ap (swap n) (eqb-true _ _ h)))
    (λ h. eq-eqb _ _ (ap (swap n) (eqb-true _ _ h) ∙ swap_twice n b))

pub swap_item : (n k : ℕ) → swap (8 + n) (8 + k) ≡ 8 + swap n k
swap_item n k = step (view n k) (view (8 + n) (8 + k))
  where
    step : View n k (swap n k) → View (8 + n) (8 + k) (swap (8 + n) (8 + k)) → swap (8 + n) (8 + k) ≡ 8 + swap n k
    step (up a b) (up d e) = omega arith
    step (up a b) (down d e) = omega arith
    step (up a b) (stay d f e) = omega arith
    step (down a b) (up d e) = omega arith
    step (down a b) (down d e) = omega arith
    step (down a b) (stay d f e) = omega arith
    step (stay a g b) (up d e) = omega arith
    step (stay a g b) (down d e) = omega arith
    step (stay a g b) (stay d f e) = omega arith

-- j before what k becomes was before k, unless the two are the pair
pub swap_before : (n j k : ℕ) → j < swap n k → (swap n j < k) ⊎ ((k ≡ n) × (j ≡ n) × (swap n j ≡ suc n))
swap_before n j k h = step (view n k) (view n j)
  where
    step : View n k (swap n k) → View n j (swap n j) → (swap n j < k) ⊎ ((k ≡ n) × (j ≡ n) × (swap n j ≡ suc n))
    step (up a b) (up d e) = inr (a, d, e)
    step (up a b) (down d e) = inl (omega arith)
    step (up a b) (stay d f e) = inl (omega arith)
    step (down a b) (up d e) = inl (omega arith)
    step (down a b) (down d e) = inl (omega arith)
    step (down a b) (stay d f e) = inl (omega arith)
    step (stay a g b) (up d e) = inl (omega arith)
    step (stay a g b) (down d e) = inl (omega arith)
    step (stay a g b) (stay d f e) = inl (omega arith)

-- f is g with the numbers changed about
pub below_swap : (n m : ℕ) (f g : ℕ → Bool) → ((k : ℕ) → k < m → swap n k < m) → ((k : ℕ) → k < m → f k ≡ g (swap n k))
    → some_below m f ≡ some_below m g
below_swap n m f g l e = bool_eq _ _
    (λ h. let r = below_cases m f h in below_make m g (swap n r.0) (l r.0 r.1) (sym (e r.0 r.1) ∙ r.2))
    (λ h. let r = below_cases m g h in below_make m f (swap n r.0) (l r.0 r.1) (e (swap n r.0) (l r.0 r.1) ∙ ap g (swap_twice n r.0) ∙ r.2))

pub put_swapped : {A B : Type 0} (n : ℕ) (f : ℕ → A) (g : A → B) (i : ℕ) (v : A) (k : ℕ)
    → put (λ j. g (f (swap n j))) (swap n i) (g v) k ≡ g (put f i v (swap n k))
put_swapped n f g i v k = ap (λ (b : Bool). cond b (g v) (g (f (swap n k)))) (sym (swap_eqb n k i)) ∙ step (eqb (swap n k) i)
  where
    step : (b : Bool) → cond b (g v) (g (f (swap n k))) ≡ g (cond b v (f (swap n k)))
    step true = refl
    step false = refl

abbrev pub swap_order : ℕ → Order → Order
swap_order n R a b = R (swap n a) (swap n b)

pub joined_swapped : (n : ℕ) (R : Order) (i m : ℕ) (P Q : ℕ → Bool) → ((k : ℕ) → k < m → swap n k < m) → ((e : ℕ) → e < m → Q e ≡ P (swap n e))
    → joined (swap_order n R) (swap n i) m Q ≡ swap_order n (joined R i m P)
unfolding joined
joined_swapped n R i m P Q l e = fun_ext λ a. fun_ext λ b.
    ap₂ (λ (x y : Bool). R (swap n a) (swap n b) || (x && y))
    (ap₂ (λ (x : Bool) (j : ℕ). x || R j (swap n b)) (sym (swap_eqb n b i)) (swap_twice n i))
    (below_swap n m (λ p. Q p && up_to (swap_order n R) a p) (λ p. P p && up_to R (swap n a) p) l (λ p z. ap₂ (λ (x y : Bool). x && (y || R (swap n a) (swap n p))) (e p z) (ap (λ (z : ℕ). eqb z p) (sym (swap_twice n a)) ∙ swap_eqb n (swap n a) p)))

pub joined_if_swapped : (x : Bool) (n : ℕ) (R : Order) (i m : ℕ) (P Q : ℕ → Bool) → ((k : ℕ) → k < m → swap n k < m)
    → ((e : ℕ) → e < m → Q e ≡ P (swap n e)) → joined_if x (swap_order n R) (swap n i) m Q ≡ swap_order n (joined_if x R i m P)
unfolding joined_if
joined_if_swapped true n R i m P Q l e = joined_swapped n R i m P Q l e
joined_if_swapped false n R i m P Q l e = refl

-- an order of items below n
pub swap_order_low : (n : ℕ) (R : Order) → ((a b : ℕ) → R a b ≡ true → (a < n) × (b < n)) → swap_order n R ≡ R
swap_order_low n R h = fun_ext λ a. fun_ext λ b. bool_eq _ _
    (λ e. let w = h (swap n a) (swap n b) e in sym (ap₂ R (fixed a w.0) (fixed b w.1)) ∙ e)
    (λ e. let w = h a b e in ap₂ R (swap_small n a w.0) (swap_small n b w.1) ∙ e)
  where
    fixed : (a : ℕ) → swap n a < n → swap n a ≡ a
    fixed a l = sym (swap_small n (swap n a) l) ∙ swap_twice n a
