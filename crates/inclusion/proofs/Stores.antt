-- Buffers of stores against the write actions that they stand for. Assumes nothing.
use mathlib.Core.Path.{◌≡◌, refl, sym, ◌∙◌, ap, ap₂, subst}
use mathlib.Core.Logic.{◌⊎◌, inl, inr, ⊎_elim}
use mathlib.Core.Bool.{Bool, true, false, cond, false≢true}
use mathlib.Core.List.Memᴰ
use mathlib.Core.List.{List, [], ◌∷◌, ◌++◌, map, Memᴰ}
use mathlib.Core.Option.{Option, none, some}
use Prim.Native.Nat.{ℕ, ◌≤◌, ◌<◌}
use native.Mathlib.Omega.{arith}
use lib.Dec.{eqb}
use borrow.Author.Tests.{eqb-true, eqb-false}
use Rattle.words.specs.Small.{is_none, or_zero}
use Rattle.rules.specs.State.{State}
use Rattle.boards.specs.Board.{Store, newer, newest_to}

-- each is below all that follow it
abbrev pub Ascends : List ℕ → Type 0
Ascends [] = Unit {0}
Ascends (x ∷ xs) = ((y : ℕ) → Memᴰ y xs → x < y) × Ascends xs

pub ascends_more : (n : ℕ) (xs : List ℕ) → Ascends xs → ((y : ℕ) → Memᴰ y xs → y < n) → Ascends (xs ++ (n ∷ []))
ascends_more n [] a h = (λ y m. absurd (Memᴰ.not-nil m), tt)
ascends_more n (x ∷ xs) a h = (λ y m. ⊎_elim (a.0 y) (λ q. subst (λ (z : ℕ). x < z) (sym (Memᴰ.eq_of_singleton q)) (h x (Memᴰ.head refl))) (Memᴰ.append_cases xs m), ascends_more n xs a.1 (λ y m. h y (Memᴰ.tail m)))

pub map_same : {A B : Type 0} (f g : A → B) (xs : List A) → ((x : A) → Memᴰ x xs → f x ≡ g x) → map f xs ≡ map g xs
map_same f g [] h = refl
map_same f g (x ∷ xs) h = ap₂ ◌∷◌ (h x (Memᴰ.head refl)) (map_same f g xs (λ y m. h y (Memᴰ.tail m)))

pub map_more : {A B : Type 0} (f : A → B) (xs : List A) (y : A) → map f (xs ++ (y ∷ [])) ≡ map f xs ++ (f y ∷ [])
map_more f [] y = refl
map_more f (x ∷ xs) y = ap (λ l. f x ∷ l) (map_more f xs y)

-- the store that action j is
abbrev pub store_of : State → ℕ → Store
store_of s j = record { loc = (s.actions j).loc; value = or_zero (s.actions j).result }

-- the newest of the stores xs to location l, of value v
pub record Newest (s : State) (l : ℕ) (xs : List ℕ) (v : ℕ) : Type 0 where
  pub store : ℕ
  pub mem : Memᴰ store xs
  pub at : (s.actions store).loc ≡ l
  pub worth : or_zero (s.actions store).result ≡ v
  pub top : (j : ℕ) → Memᴰ j xs → (s.actions j).loc ≡ l → j ≤ store

some_inj : (u v : ℕ) → some u ≡ some v → u ≡ v
some_inj u v h = ap or_zero h

module _ (s : State) (l : ℕ) where
  pub newest-none : (xs : List ℕ) → newest_to l (map (store_of s) xs) ≡ none → (j : ℕ) → Memᴰ j xs → (s.actions j).loc ≡ l → ⊥
  unfolding newest_to
  newest-none [] h j m e = Memᴰ.not-nil m
  newest-none (x ∷ xs) h j m e = step (newest-none xs) (newest_to l (map (store_of s) xs)) refl (eqb (s.actions x).loc l) refl h (Memᴰ.cases_cons m)
    where
      step : (newest_to l (map (store_of s) xs) ≡ none → (j : ℕ) → Memᴰ j xs → (s.actions j).loc ≡ l → ⊥) → (o : Option ℕ) → newest_to l (map (store_of s) xs) ≡ o → (b : Bool) → eqb (s.actions x).loc l ≡ b → newer o (cond b (some (or_zero (s.actions x).result)) none) ≡ none → (j ≡ x) ⊎ Memᴰ j xs → ⊥
      step more (some v) p b q h w = false≢true (ap is_none h)
      step more none p true q h w = false≢true (ap is_none h)
      step more none p false q h (inl w) = eqb-false _ _ q (ap (λ (i : ℕ). (s.actions i).loc) (sym w) ∙ e)
      step more none p false q h (inr w) = more p j w e

  pub newest-some : (xs : List ℕ) → Ascends xs → (v : ℕ) → newest_to l (map (store_of s) xs) ≡ some v → Newest s l xs v
  unfolding newest_to
  newest-some [] a v h = absurd (false≢true (sym (ap is_none h)))
  newest-some (x ∷ xs) a v h = step (newest-some xs a.1) (newest_to l (map (store_of s) xs)) refl (eqb (s.actions x).loc l) refl h
    where
      step : ((v : ℕ) → newest_to l (map (store_of s) xs) ≡ some v → Newest s l xs v) → (o : Option ℕ) → newest_to l (map (store_of s) xs) ≡ o → (b : Bool) → eqb (s.actions x).loc l ≡ b → newer o (cond b (some (or_zero (s.actions x).result)) none) ≡ some v → Newest s l (x ∷ xs) v
      step more none p false q h = absurd (false≢true (sym (ap is_none h)))
      step more none p true q h =
          record {
            store = x;
            mem = Memᴰ.head refl;
            at = eqb-true _ _ q;
            worth = ap or_zero h;
            top = λ j m e. ⊎_elim (λ w. omega arith) (λ w. absurd (newest-none xs p j w e)) (Memᴰ.cases_cons m);
          }
      step more (some u) p b q h =
          let r = more u p in
          record {
            store = r.store;
            mem = Memᴰ.tail r.mem;
            at = r.at;
            worth = r.worth ∙ ap or_zero h;
            top = λ j m e. ⊎_elim (λ w. omega (arith, a.0 r.store r.mem, w)) (λ w. r.top j w e) (Memᴰ.cases_cons m);
          }
