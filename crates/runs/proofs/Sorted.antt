-- A list of records put in order, each once. Assumes nothing.
use mathlib.Core.Path.{◌≡◌, refl, sym, subst}
use mathlib.Core.Logic.{◌⊎◌, inl, inr, ⊎_elim}
use mathlib.Core.Bool.{Bool, true, false}
use mathlib.Core.List.Memᴰ
use mathlib.Core.List.{List, [], ◌∷◌, Memᴰ}
use Prim.Native.Nat.{ℕ}
use Rattle.words.specs.Small.{all}
use Rattle.words.proofs.Bools.{and_both, and_make, all_at, all_make}
use Rattle.runs.specs.Listing.{below, ascending}
use Rattle.runs.proofs.ByteOrder.{below_trans, below_total}

-- a record goes in at its place
abbrev pub place : Bool → Bool → List ℕ → List ℕ → List (List ℕ) → List (List ℕ) → List (List ℕ)
place true later r q qs more = r ∷ q ∷ qs
place false true r q qs more = q ∷ more
place false false r q qs more = q ∷ qs

pub insert : List ℕ → List (List ℕ) → List (List ℕ)
insert r [] = r ∷ []
insert r (q ∷ qs) = let more = insert r qs in place (below r q) (below q r) r q qs more

module _ (r : List ℕ) where
  pub insert_cases : (x : List ℕ) (l : List (List ℕ)) → Memᴰ x (insert r l) → (x ≡ r) ⊎ Memᴰ x l
  unfolding insert
  insert_cases x [] k = Memᴰ.cases_cons k
  insert_cases x (q ∷ qs) k = step (below r q) (below q r) (insert_cases x qs) k
    where
      step : (a b : Bool) → (Memᴰ x (insert r qs) → (x ≡ r) ⊎ Memᴰ x qs) → Memᴰ x (place a b r q qs (insert r qs)) → (x ≡ r) ⊎ Memᴰ x (q ∷ qs)
      step true b more k = Memᴰ.cases_cons k
      step false true more k = ⊎_elim (λ e. inr (Memᴰ.head e)) (λ d. ⊎_elim (λ e. inl e) (λ d. inr (Memᴰ.tail d)) (more d)) (Memᴰ.cases_cons k)
      step false false more k = inr k

  pub insert_old : (x : List ℕ) (l : List (List ℕ)) → Memᴰ x l → Memᴰ x (insert r l)
  unfolding insert
  insert_old x [] k = absurd (Memᴰ.not-nil k)
  insert_old x (q ∷ qs) k = step (below r q) (below q r) (insert_old x qs) k
    where
      step : (a b : Bool) → (Memᴰ x qs → Memᴰ x (insert r qs)) → Memᴰ x (q ∷ qs) → Memᴰ x (place a b r q qs (insert r qs))
      step true b more k = Memᴰ.tail k
      step false true more k = ⊎_elim (λ e. Memᴰ.head e) (λ d. Memᴰ.tail (more d)) (Memᴰ.cases_cons k)
      step false false more k = k

  pub insert_new : (l : List (List ℕ)) → Memᴰ r (insert r l)
  unfolding insert
  insert_new [] = Memᴰ.head refl
  insert_new (q ∷ qs) = step (below r q) (below q r) refl refl (insert_new qs)
    where
      step : (a b : Bool) → below r q ≡ a → below q r ≡ b → Memᴰ r (insert r qs) → Memᴰ r (place a b r q qs (insert r qs))
      step true b h k more = Memᴰ.head refl
      step false true h k more = Memᴰ.tail more
      step false false h k more = Memᴰ.head (below_total r q h k)

  pub insert_ascending : (l : List (List ℕ)) → ascending l ≡ true → ascending (insert r l) ≡ true
  unfolding insert
  insert_ascending [] h = refl
  insert_ascending (q ∷ qs) h = step (below r q) (below q r) refl refl (insert_ascending qs w.1)
    where
      w : (all (below q) qs ≡ true) × (ascending qs ≡ true)
      w = and_both (all (below q) qs) (ascending qs) h

      step : (a b : Bool) → below r q ≡ a → below q r ≡ b → ascending (insert r qs) ≡ true → ascending (place a b r q qs (insert r qs)) ≡ true
      step true b d k more =
          and_make (all (below r) (q ∷ qs)) (ascending (q ∷ qs))
          (and_make (below r q) (all (below r) qs) d (all_make (below r) qs (λ z x. below_trans r q z d (all_at (below q) x w.0)))) h
      step false true d k more =
          and_make (all (below q) (insert r qs)) (ascending (insert r qs))
          (all_make (below q) (insert r qs) (λ z x. ⊎_elim (λ e. subst (λ (y : List ℕ). below q y ≡ true) (sym e) k) (λ y. all_at (below q) y w.0) (insert_cases z qs x))) more
      step false false d k more = h

pub sorted : List (List ℕ) → List (List ℕ)
sorted [] = []
sorted (r ∷ rs) = insert r (sorted rs)

pub sorted_ascending : (l : List (List ℕ)) → ascending (sorted l) ≡ true
unfolding sorted
sorted_ascending [] = refl
sorted_ascending (r ∷ rs) = insert_ascending r (sorted rs) (sorted_ascending rs)

pub sorted_cases : (l : List (List ℕ)) (x : List ℕ) → Memᴰ x (sorted l) → Memᴰ x l
unfolding sorted
sorted_cases [] x k = k
sorted_cases (r ∷ rs) x k = ⊎_elim (λ e. Memᴰ.head e) (λ d. Memᴰ.tail (sorted_cases rs x d)) (insert_cases r x (sorted rs) k)

pub sorted_make : (l : List (List ℕ)) (x : List ℕ) → Memᴰ x l → Memᴰ x (sorted l)
unfolding sorted
sorted_make [] x k = k
sorted_make (r ∷ rs) x k = ⊎_elim (λ e. Memᴰ.cast e (insert_new r (sorted rs))) (λ d. insert_old r x (sorted rs) (sorted_make rs x d)) (Memᴰ.cases_cons k)
