-- `joined` is the transitive closure: it is transitive, holds the old order and the new edges, and lies within every order that does.
-- Assumes nothing.
use Rattle.std.proofs.Common.{◌≡◌, ℕ, ◌<◌, Bool, true, false, ◌&&◌, ◌||◌, eqb, ◌⊎◌, sym, refl, subst, inl, inr, eq-eqb, eqb-true}
use mathlib.Core.Bool.{false≢true}
use Rattle.words.specs.Small.{some_below}
use Rattle.rules.specs.Order.{Order, up_to, joined, joined_if}
use Rattle.words.proofs.Bools.{or_cases, or_left, or_right, and_both, and_make, below_cases, below_make}

abbrev pub Transitive : Order → Type 0
Transitive R = (a b c : ℕ) → R a b ≡ true → R b c ≡ true → R a c ≡ true

-- a is b, or stands before it
abbrev pub UpTo : Order → ℕ → ℕ → Type 0
UpTo R a b = (a ≡ b) ⊎ (R a b ≡ true)

up_to_cases : (R : Order) (a b : ℕ) → up_to R a b ≡ true → UpTo R a b
up_to_cases R a b h = step (or_cases (eqb a b) (R a b) h)
  where
    step : (eqb a b ≡ true) ⊎ (R a b ≡ true) → UpTo R a b
    step (inl e) = inl (eqb-true a b e)
    step (inr e) = inr e

up_to_make : (R : Order) (a b : ℕ) → UpTo R a b → up_to R a b ≡ true
up_to_make R a b (inl e) = or_left (eqb a b) (R a b) (eq-eqb a b e)
up_to_make R a b (inr e) = or_right (eqb a b) (R a b) e

-- the way from a to b over a new edge
pub record Via (R : Order) (i : ℕ) (n : ℕ) (P : ℕ → Bool) (a b : ℕ) : Type 0 where
  pub from : ℕ
  pub low : from < n
  pub one : P from ≡ true
  pub up : UpTo R a from
  pub down : UpTo R i b

module _ (R : Order) (i : ℕ) (n : ℕ) (P : ℕ → Bool) where
  pub joined_cases : (a b : ℕ) → joined R i n P a b ≡ true → (R a b ≡ true) ⊎ Via R i n P a b
  unfolding joined
  joined_cases a b h = step (or_cases (R a b) _ h)
    where
      down : (eqb b i || R i b) ≡ true → UpTo R i b
      down e = turn (or_cases (eqb b i) (R i b) e)
        where
          turn : (eqb b i ≡ true) ⊎ (R i b ≡ true) → UpTo R i b
          turn (inl e) = inl (sym (eqb-true b i e))
          turn (inr e) = inr e

      step : (R a b ≡ true) ⊎ (((eqb b i || R i b) && some_below n (λ p. P p && up_to R a p)) ≡ true) → (R a b ≡ true) ⊎ Via R i n P a b
      step (inl e) = inl e
      step (inr e) =
          let w = and_both (eqb b i || R i b) (some_below n (λ p. P p && up_to R a p)) e in
          let p = below_cases n (λ p. P p && up_to R a p) w.1 in
          let q = and_both (P p.0) (up_to R a p.0) p.2 in
          inr (record { from = p.0; low = p.1; one = q.0; up = up_to_cases R a p.0 q.1; down = down w.0 })

  pub joined_keeps : (a b : ℕ) → R a b ≡ true → joined R i n P a b ≡ true
  unfolding joined
  joined_keeps a b h = or_left (R a b) _ h

  pub joined_via : (a b : ℕ) → Via R i n P a b → joined R i n P a b ≡ true
  unfolding joined
  joined_via a b v = or_right (R a b) _ (and_make _ _ (down v.down) (below_make n _ v.from v.low (and_make _ _ v.one (up_to_make R a v.from v.up))))
    where
      down : UpTo R i b → (eqb b i || R i b) ≡ true
      down (inl e) = or_left (eqb b i) (R i b) (eq-eqb b i (sym e))
      down (inr e) = or_right (eqb b i) (R i b) e

  pub joined_adds : (p : ℕ) → p < n → P p ≡ true → joined R i n P p i ≡ true
  joined_adds p l m = joined_via p i (record { from = p; low = l; one = m; up = inl refl; down = inl refl })

  module _ (t : Transitive R) where
    up_more : (a b c : ℕ) → R a b ≡ true → UpTo R b c → UpTo R a c
    up_more a b c h (inl e) = inr (subst (λ (x : ℕ). R a x ≡ true) e h)
    up_more a b c h (inr k) = inr (t a b c h k)

    down_more : (a b c : ℕ) → UpTo R a b → R b c ≡ true → UpTo R a c
    down_more a b c (inl e) h = inr (subst (λ (x : ℕ). R x c ≡ true) (sym e) h)
    down_more a b c (inr k) h = inr (t a b c k h)

    pub joined_transitive : Transitive (joined R i n P)
    joined_transitive a b c h k = step (joined_cases a b h) (joined_cases b c k)
      where
        step : (R a b ≡ true) ⊎ Via R i n P a b → (R b c ≡ true) ⊎ Via R i n P b c → joined R i n P a c ≡ true
        step (inl x) (inl y) = joined_keeps a c (t a b c x y)
        step (inl x) (inr w) = joined_via a c (record { from = w.from; low = w.low; one = w.one; up = up_more a b w.from x w.up; down = w.down })
        step (inr v) (inl y) = joined_via a c (record { from = v.from; low = v.low; one = v.one; up = v.up; down = down_more i b c v.down y })
        step (inr v) (inr w) = joined_via a c (record { from = v.from; low = v.low; one = v.one; up = v.up; down = w.down })

  -- within every transitive order that has R and the new edges
  pub joined-least : (Q : Order) → Transitive Q → ((a b : ℕ) → R a b ≡ true → Q a b ≡ true) → ((p : ℕ) → p < n → P p ≡ true → Q p i ≡ true)
      → (a b : ℕ) → joined R i n P a b ≡ true → Q a b ≡ true
  joined-least Q t keeps adds a b h = step (joined_cases a b h)
    where
      up : (p : ℕ) → Q p i ≡ true → UpTo R a p → Q a i ≡ true
      up p e (inl x) = subst (λ (y : ℕ). Q y i ≡ true) (sym x) e
      up p e (inr x) = t a p i (keeps a p x) e

      down : Q a i ≡ true → UpTo R i b → Q a b ≡ true
      down e (inl x) = subst (λ (y : ℕ). Q a y ≡ true) x e
      down e (inr x) = t a i b e (keeps i b x)

      step : (R a b ≡ true) ⊎ Via R i n P a b → Q a b ≡ true
      step (inl x) = keeps a b x
      step (inr v) = down (up v.from (adds v.from v.low v.one) v.up) v.down

-- the same edges, put in twice over in either order
pub joined_swap : (R : Order) (i n : ℕ) (P : ℕ → Bool) (j m : ℕ) (Q : ℕ → Bool) → Transitive R → (a b : ℕ) → joined (joined R i n P) j m Q a b ≡ true → joined (joined R j m Q) i n P a b ≡ true
joined_swap R i n P j m Q t =
    joined-least (joined R i n P) j m Q X t_x
    (joined-least R i n P X t_x (λ a b h. joined_keeps S i n P a b (joined_keeps R j m Q a b h)) (λ p l h. joined_adds S i n P p l h))
    (λ p l h. joined_keeps S i n P p j (joined_adds R j m Q p l h))
  where
    S : Order
    S = joined R j m Q

    X : Order
    X = joined S i n P

    t_x : Transitive X
    t_x = joined_transitive S i n P (joined_transitive R j m Q t)

-- the closure, where there is something to join

pub joined_if_cases : (x : Bool) (R : Order) (i n : ℕ) (P : ℕ → Bool) (a b : ℕ) → joined_if x R i n P a b ≡ true → (R a b ≡ true) ⊎ Via R i n P a b
unfolding joined_if
joined_if_cases true R i n P a b h = joined_cases R i n P a b h
joined_if_cases false R i n P a b h = inl h

pub joined_if_transitive : (b : Bool) (R : Order) (i n : ℕ) (P : ℕ → Bool) → Transitive R → Transitive (joined_if b R i n P)
unfolding joined_if
joined_if_transitive true R i n P t = joined_transitive R i n P t
joined_if_transitive false R i n P t = t

pub joined_if_keeps : (x : Bool) (R : Order) (i n : ℕ) (P : ℕ → Bool) (a b : ℕ) → R a b ≡ true → joined_if x R i n P a b ≡ true
unfolding joined_if
joined_if_keeps true R i n P a b h = joined_keeps R i n P a b h
joined_if_keeps false R i n P a b h = h

pub joined_if_adds : (x : Bool) (R : Order) (i n : ℕ) (P : ℕ → Bool) (a : ℕ) → x ≡ true → a < n → P a ≡ true → joined_if x R i n P a i ≡ true
unfolding joined_if
joined_if_adds true R i n P a e h k = joined_adds R i n P a h k
joined_if_adds false R i n P a e h k = absurd (false≢true e)
