-- Ascending lists of records. Assumes nothing.
use mathlib.Core.Path.{◌≡◌, refl, sym, ◌∙◌, subst}
use mathlib.Core.Logic.{◌⊎◌, inl, inr, ⊎_elim, ◌↔◌}
use mathlib.Core.Bool.{true}
use mathlib.Core.List.Memᴰ
use mathlib.Core.List.{List, [], ◌∷◌, ◌++◌, Memᴰ}
use Prim.Native.Nat.{ℕ, ◌≤◌, zero-le, suc-le-suc}
use lib.ListN.{length}
use Rattle.words.specs.Small.{all}
use Rattle.words.proofs.Bools.{and_both, and_make, all_make, all_at}
use Rattle.runs.specs.Listing.{below, ascending}
use Rattle.runs.proofs.ByteOrder.{below_irrefl, below_trans}

-- r put between xs and ys
module _ (x r : List ℕ) (xs ys : List (List ℕ)) where
  put_cases : Memᴰ x (xs ++ r ∷ ys) → Memᴰ x (xs ++ ys) ⊎ (x ≡ r)
  put_cases m = ⊎_elim
      (λ h. inl (Memᴰ.append_left ys h))
      (λ h. ⊎_elim inr (λ k. inl (Memᴰ.append_right xs k)) (Memᴰ.cases_cons h))
      (Memᴰ.append_cases xs m)

  put_old : Memᴰ x (xs ++ ys) → Memᴰ x (xs ++ r ∷ ys)
  put_old m = ⊎_elim (λ h. Memᴰ.append_left (r ∷ ys) h) (λ h. Memᴰ.append_right xs (Memᴰ.tail h)) (Memᴰ.append_cases xs m)

  pub members_put : Memᴰ x (xs ++ r ∷ ys) ↔ (Memᴰ x (xs ++ ys) ⊎ (x ≡ r))
  members_put = (put_cases, ⊎_elim put_old (λ e. Memᴰ.append_right xs (Memᴰ.head e)))

module _ (r : List ℕ) (rs : List (List ℕ)) (h : ascending (r ∷ rs) ≡ true) where
  pub first_below : (x : List ℕ) → Memᴰ x rs → below r x ≡ true
  first_below x m = all_at (below r) m (and_both (all (below r) rs) (ascending rs) h).0

  pub rest_ascends : ascending rs ≡ true
  rest_ascends = (and_both (all (below r) rs) (ascending rs) h).1

pub ascending_put : (r : List ℕ) (xs ys : List (List ℕ)) → ascending (xs ++ ys) ≡ true →
    ((x : List ℕ) → Memᴰ x xs → below x r ≡ true) → ((y : List ℕ) → Memᴰ y ys → below r y ≡ true) → ascending (xs ++ r ∷ ys) ≡ true
ascending_put r [] ys a f g = and_make (all (below r) ys) (ascending ys) (all_make (below r) ys g) a
ascending_put r (x ∷ xs) ys a f g =
    and_make (all (below x) (xs ++ r ∷ ys)) (ascending (xs ++ r ∷ ys)) (all_make (below x) (xs ++ r ∷ ys) later)
    (ascending_put r xs ys (rest_ascends x (xs ++ ys) a) (λ w m. f w (Memᴰ.tail m)) g)
  where
    later : (y : List ℕ) → Memᴰ y (xs ++ r ∷ ys) → below x y ≡ true
    later y m = ⊎_elim
        (first_below x (xs ++ ys) a y)
        (λ e. subst (λ (w : List ℕ). below x w ≡ true) (sym e) (f x (Memᴰ.head refl)))
        ((members_put y r xs ys).0 m)

-- an ascending list within an ascending list is no longer
pub no_longer : (xs ys : List (List ℕ)) → ascending xs ≡ true → ascending ys ≡ true →
    ((x : List ℕ) → Memᴰ x xs → Memᴰ x ys) → length xs ≤ length ys
no_longer [] ys a b f = zero-le
no_longer (x ∷ xs) [] a b f = absurd (Memᴰ.not-nil (f x (Memᴰ.head refl)))
no_longer (x ∷ xs) (y ∷ ys) a b f = suc-le-suc (no_longer xs ys (rest_ascends x xs a) (rest_ascends y ys b) later)
  where
    -- nothing above x is the first of ys, since x is among them
    not_first : (w : List ℕ) → Memᴰ w xs → w ≡ y → ⊥
    not_first w m e =
        let h = first_below x xs a w m in
        ⊎_elim (λ q. below_irrefl w (subst (λ (v : List ℕ). below v w ≡ true) (q ∙ sym e) h))
        (λ n. below_irrefl x (below_trans x w x h (subst (λ (v : List ℕ). below v x ≡ true) (sym e) (first_below y ys b x n))))
        (Memᴰ.cases_cons (f x (Memᴰ.head refl)))

    later : (w : List ℕ) → Memᴰ w xs → Memᴰ w ys
    later w m = ⊎_elim (λ e. absurd (not_first w m e)) (λ n. n) (Memᴰ.cases_cons (f w (Memᴰ.tail m)))
