-- Tests taken apart. Assumes nothing.
use mathlib.Core.Path.{◌≡◌, refl, ap, sym, ◌∙◌, fun_ext}
use mathlib.Core.Logic.{◌⊎◌, inl, inr, ⊎_elim}
use mathlib.Core.Bool.{Bool, true, false, ◌&&◌, ◌||◌, cond, false≢true}
use mathlib.Core.List.{List, [], ◌∷◌, Memᴰ}
use Prim.Native.Nat.{ℕ, zero, suc, ◌<◌}
use native.Mathlib.Omega.{arith}
use lib.Dec.{eqb}
use borrow.Author.Tests.{eqb-true, eqb-false, eq-eqb, ne_eqb}
use Rattle.words.specs.Small.{any, all, put, some_below}

pub decide : (b : Bool) → (b ≡ true) ⊎ (b ≡ false)
decide true = inl refl
decide false = inr refl

pub or_cases : (a b : Bool) → (a || b) ≡ true → (a ≡ true) ⊎ (b ≡ true)
or_cases true b h = inl refl
or_cases false b h = inr h

pub or_left : (a b : Bool) → a ≡ true → (a || b) ≡ true
or_left a b h = rw h

pub or_right : (a b : Bool) → b ≡ true → (a || b) ≡ true
or_right true b h = refl
or_right false b h = h

pub or_none : (a b : Bool) → (a || b) ≡ false → (a ≡ false) × (b ≡ false)
or_none true b h = absurd (false≢true (sym h))
or_none false b h = (refl, h)

pub and_both : (a b : Bool) → (a && b) ≡ true → (a ≡ true) × (b ≡ true)
and_both true b h = (refl, h)
and_both false b h = absurd (false≢true h)

pub and_make : (a b : Bool) → a ≡ true → b ≡ true → (a && b) ≡ true
and_make a b h k = rw (h, k)

pub or_false : (a b : Bool) → a ≡ false → b ≡ false → (a || b) ≡ false
or_false a b h k = rw (h, k)

pub or_nothing : (b : Bool) → (b || false) ≡ b
or_nothing true = refl
or_nothing false = refl

pub and_true : (b : Bool) → (b && true) ≡ b
and_true true = refl
and_true false = refl

pub and_rest : (a b : Bool) → (a && b) ≡ false → a ≡ true → b ≡ false
and_rest true b h e = h
and_rest false b h e = absurd (false≢true e)

pub and_left : (a b : Bool) → a ≡ false → (a && b) ≡ false
and_left a b h = rw h

pub and_right : (a b : Bool) → b ≡ false → (a && b) ≡ false
and_right true b h = h
and_right false b h = refl

module _ {A : Type 0} (f : A → Bool) where
  pub any_cases : (l : List A) → any f l ≡ true → (x : A) × Memᴰ x l × (f x ≡ true)
  any_cases [] h = absurd (false≢true h)
  any_cases (x ∷ xs) h = step (any_cases xs) (or_cases (f x) (any f xs) h)
    where
      step : (any f xs ≡ true → (y : A) × Memᴰ y xs × (f y ≡ true)) → (f x ≡ true) ⊎ (any f xs ≡ true) → (y : A) × Memᴰ y (x ∷ xs) × (f y ≡ true)
      step more (inl e) = (x, Memᴰ.head refl, e)
      step more (inr e) = let r = more e in (r.0, Memᴰ.tail r.1, r.2)

  pub any_make : {x : A} {l : List A} → Memᴰ x l → f x ≡ true → any f l ≡ true
  any_make {x} (Memᴰ.head {x = y} {xs = ys} e) h = or_left (f y) (any f ys) (ap f (sym e) ∙ h)
  any_make {x} (Memᴰ.tail {x = y} {xs = ys} m) h = or_right (f y) (any f ys) (any_make m h)

  pub all_make : (l : List A) → ((x : A) → Memᴰ x l → f x ≡ true) → all f l ≡ true
  all_make [] h = refl
  all_make (x ∷ xs) h = and_make (f x) (all f xs) (h x (Memᴰ.head refl)) (all_make xs (λ y m. h y (Memᴰ.tail m)))

  pub all_at : {x : A} {l : List A} → Memᴰ x l → all f l ≡ true → f x ≡ true
  all_at {x} (Memᴰ.head {x = y} {xs = ys} e) h = ap f e ∙ (and_both (f y) (all f ys) h).0
  all_at {x} (Memᴰ.tail {x = y} {xs = ys} m) h = all_at m (and_both (f y) (all f ys) h).1

pub bool_eq : (a b : Bool) → (a ≡ true → b ≡ true) → (b ≡ true → a ≡ true) → a ≡ b
bool_eq true b f g = sym (f refl)
bool_eq false true f g = g refl
bool_eq false false f g = refl

-- a test fails where another that it entails does
pub fails : (a b : Bool) → (b ≡ true → a ≡ true) → a ≡ false → b ≡ false
fails a true f h = absurd (false≢true (sym h ∙ f refl))
fails a false f h = refl

pub cond-true : {A : Type 0} (b : Bool) (x y : A) → b ≡ true → cond b x y ≡ x
cond-true b x y h = rw h

pub cond-false : {A : Type 0} (b : Bool) (x y : A) → b ≡ false → cond b x y ≡ y
cond-false b x y h = rw h

-- some_below

pub below_cases : (n : ℕ) (f : ℕ → Bool) → some_below n f ≡ true → (k : ℕ) × (k < n) × (f k ≡ true)
unfolding some_below
below_cases zero f h = absurd (false≢true h)
below_cases (suc n) f h = step (below_cases n f) (or_cases (f n) (some_below n f) h)
  where
    step : (some_below n f ≡ true → (k : ℕ) × (k < n) × (f k ≡ true)) → (f n ≡ true) ⊎ (some_below n f ≡ true) → (k : ℕ) × (k < suc n) × (f k ≡ true)
    step more (inl e) = (n, omega arith, e)
    step more (inr e) = let r = more e in (r.0, omega (arith, r.1), r.2)

pub below_make : (n : ℕ) (f : ℕ → Bool) (k : ℕ) → k < n → f k ≡ true → some_below n f ≡ true
unfolding some_below
below_make zero f k h e = absurd (omega arith)
below_make (suc n) f k h e = ⊎_elim (λ q. or_left (f n) _ (ap f (sym (eqb-true k n q)) ∙ e)) (λ q. or_right (f n) _ (below_make n f k (omega (arith, eqb-false k n q)) e)) (decide (eqb k n))

pub none_below : (n : ℕ) (f : ℕ → Bool) → some_below n f ≡ false → (k : ℕ) → k < n → f k ≡ false
none_below n f h k l = fails (some_below n f) (f k) (below_make n f k l) h

module _ (n : ℕ) (f g : ℕ → Bool) where
  pub below_fewer : ((k : ℕ) → k < n → g k ≡ true → f k ≡ true) → some_below n f ≡ false → some_below n g ≡ false
  below_fewer m = fails (some_below n f) (some_below n g) (λ h. let r = below_cases n g h in below_make n f r.0 r.1 (m r.0 r.1 r.2))

  pub below-same : ((k : ℕ) → k < n → f k ≡ g k) → some_below n f ≡ some_below n g
  below-same e = bool_eq _ _ (λ h. let r = below_cases n f h in below_make n g r.0 r.1 (sym (e r.0 r.1) ∙ r.2)) (λ h. let r = below_cases n g h in below_make n f r.0 r.1 (e r.0 r.1 ∙ r.2))

-- put

module _ {A : Type 0} (f : ℕ → A) where
  pub put_same : (i j : ℕ) (v : A) → j ≡ i → put f i v j ≡ v
  put_same i j v h = cond-true (eqb j i) v (f j) (eq-eqb j i h)

  pub put_other : (i j : ℕ) (v : A) → (j ≡ i → ⊥) → put f i v j ≡ f j
  put_other i j v h = cond-false (eqb j i) v (f j) (ne_eqb j i h)

  pub put_swap : (i k : ℕ) (v w : A) → (i ≡ k → ⊥) → put (put f i v) k w ≡ put (put f k w) i v
  put_swap i k v w h = fun_ext λ j. step j (eqb j i) (eqb j k) refl refl
    where
      step : (j : ℕ) (a b : Bool) → eqb j i ≡ a → eqb j k ≡ b → cond b w (cond a v (f j)) ≡ cond a v (cond b w (f j))
      step j true true p q = absurd (h (sym (eqb-true j i p) ∙ eqb-true j k q))
      step j true false p q = refl
      step j false true p q = refl
      step j false false p q = refl
