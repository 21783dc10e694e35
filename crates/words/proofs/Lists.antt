-- Lists that are made of a function: elements and lengths. Assumes nothing.
use mathlib.Core.Path.{◌≡◌, refl, ap, sym, ◌∙◌}
use mathlib.Core.Bool.{Bool, true}
use mathlib.Core.List.{List, [], ◌∷◌, ◌++◌, map, append_assoc, append-nil}
use Prim.Native.Nat.{ℕ, zero, suc, ◌+◌, ◌*◌, ◌<◌}
use native.Mathlib.Nat.{add-zero, zero-add, mul-zero, mul-suc}
use native.Mathlib.Omega.{arith}
use native.Mathlib.Decide.{dec_lt}
use lib.ListN.{length, get_or, take, set, length-append, length-map, get_or-append}
use lib.Seq.{ext_get_or, get_or-append-add, get_or-set_same, get_or-set_other, take-suc}
use Rattle.words.specs.Small.{all, each, counting, concat_map}
use Rattle.words.proofs.Bools.{and_both}

-- a test over 0, 1, .., n - 1, and what it says of each

all_from : (f : ℕ → Bool) (i n : ℕ) → all f (counting i n) ≡ true → (k : ℕ) → k < n → f (i + k) ≡ true
all_from f i zero h k lt = absurd (omega arith)
all_from f i (suc n) h zero lt = ap f (add-zero i) ∙ (and_both (f i) _ h).0
all_from f i (suc n) h (suc k) lt = ap f (omega arith) ∙ all_from f (suc i) n (and_both (f i) _ h).1 k (omega arith)

pub all_below : (f : ℕ → Bool) (n : ℕ) → all f (counting 0 n) ≡ true → (k : ℕ) → k < n → f k ≡ true
all_below f n h k lt = ap f (omega arith) ∙ all_from f 0 n h k lt

-- each

counting-length : (k n : ℕ) → length (counting k n) ≡ n
counting-length k zero = refl
counting-length k (suc n) = ap suc (counting-length (suc k) n)

module _ {A : Type 0} (f : ℕ → A) where
  pub each_length : (n : ℕ) → length (each n f) ≡ n
  each_length n = length-map (counting 0 n) f ∙ counting-length 0 n

  counted : (k n i : ℕ) (d : A) → i < n → get_or (map f (counting k n)) i d ≡ f (k + i)
  counted k zero i d h = absurd (omega arith)
  counted k (suc n) zero d h = ap f (sym (add-zero k))
  counted k (suc n) (suc i) d h = counted (suc k) n i d (omega arith) ∙ ap f (omega arith)

  pub each_at : (n i : ℕ) (d : A) → i < n → get_or (each n f) i d ≡ f i
  each_at n i d h = counted 0 n i d h ∙ ap f (omega arith)

  -- a list with f's values at its places is made of f
  pub each_is : (d : A) (l : List A) (n : ℕ) → length l ≡ n → ((i : ℕ) → i < n → get_or l i d ≡ f i) → l ≡ each n f
  each_is d l n long same = ext_get_or d l (each n f) (long ∙ sym (each_length n)) (λ i h. same i (omega arith) ∙ sym (each_at n i d (omega arith)))

-- one value more, behind the others
pub each_more : {A : Type 0} (f : ℕ → A) (n : ℕ) → each (suc n) f ≡ each n f ++ (f n ∷ [])
each_more f n = more 0 n ∙ ap (λ (k : ℕ). each n f ++ (f k ∷ [])) (zero-add n)
  where
    more : (k n : ℕ) → map f (counting k (suc n)) ≡ map f (counting k n) ++ (f (k + n) ∷ [])
    more k zero = ap (λ (i : ℕ). f i ∷ []) (sym (add-zero k))
    more k (suc n) = let q : suc k + n ≡ k + suc n = omega arith in ap (λ (l : List _). f k ∷ l) (more (suc k) n ∙ ap (λ (i : ℕ). map f (counting (suc k) n) ++ (f i ∷ [])) q)

pub each_same : {A : Type 0} (f g : ℕ → A) (n : ℕ) → ((i : ℕ) → i < n → f i ≡ g i) → each n f ≡ each n g
each_same f g n h = each_is g (f 0) (each n f) n (each_length f n) (λ i k. each_at f n i (f 0) k ∙ h i k)

-- concat_map

module _ {A B : Type 0} (f : A → List B) where
  pub concat_map-append : (l m : List A) → concat_map f (l ++ m) ≡ concat_map f l ++ concat_map f m
  concat_map-append [] m = refl
  concat_map-append (x ∷ xs) m = ap (λ (t : List B). f x ++ t) (concat_map-append xs m) ∙ sym (append_assoc (f x) (concat_map f xs) (concat_map f m))

  -- one element more
  pub concat_map_more : (l : List A) (i : ℕ) (d : A) → i < length l → concat_map f (take (suc i) l) ≡ concat_map f (take i l) ++ f (get_or l i d)
  concat_map_more l i d h = ap (concat_map f) (take-suc l i d h) ∙ concat_map-append (take i l) (get_or l i d ∷ []) ∙ ap (λ (t : List B). concat_map f (take i l) ++ t) (append-nil (f (get_or l i d)))

module _ {A B : Type 0} (f : A → List B) (m : ℕ) (wide : (x : A) → length (f x) ≡ m) where
  pub concat_map-length : (l : List A) → length (concat_map f l) ≡ m * length l
  concat_map-length [] = sym (mul-zero m)
  concat_map-length (x ∷ xs) = length-append (f x) (concat_map f xs) ∙ omega (arith, wide x, concat_map-length xs, mul-suc m (length xs))

  -- place j of the part that element i gives
  pub concat_map_at : (l : List A) (i j : ℕ) (d : A) (e : B) → i < length l → j < m → get_or (concat_map f l) (m * i + j) e ≡ get_or (f (get_or l i d)) j e
  concat_map_at [] i j d e h k = absurd (omega arith)
  concat_map_at (x ∷ xs) zero j d e h k =
      ap (λ (n : ℕ). get_or (f x ++ concat_map f xs) n e) (omega (arith, mul-zero m))
      ∙ get_or-append (f x) (concat_map f xs) e j (omega (arith, wide x))
  concat_map_at (x ∷ xs) (suc i) j d e h k =
      ap (λ (n : ℕ). get_or (f x ++ concat_map f xs) n e) (omega (arith, mul-suc m i, wide x))
      ∙ get_or-append-add (f x) (concat_map f xs) (m * i + j) e
      ∙ concat_map_at xs i j d e (omega arith) k

-- the part l of a longer list

module _ {A : Type 0} (p l q : List A) (k : ℕ) (long : length p ≡ k) where
  pub get_d_mid : (i : ℕ) (d : A) → i < length l → get_or (p ++ (l ++ q)) (k + i) d ≡ get_or l i d
  get_d_mid i d h = ap (λ (n : ℕ). get_or (p ++ (l ++ q)) (n + i) d) (sym long) ∙ get_or-append-add p (l ++ q) i d ∙ get_or-append l q d i h

  pub each_mid : (n : ℕ) (d : A) → length l ≡ n → each n (λ i. get_or (p ++ (l ++ q)) (k + i) d) ≡ l
  each_mid n d h = sym (each_is (λ i. get_or (p ++ (l ++ q)) (k + i) d) d l n h (λ i b. sym (get_d_mid i d (omega arith))))

-- a loop that stores f's values one after the other

pub filled_more : {A : Type 0} (f : ℕ → A) (d : A) (l : List A) (n : ℕ) (v : A) → n < length l → v ≡ f n → ((k : ℕ) → k < n → get_or l k d ≡ f k) → (k : ℕ) → k < n + 1 → get_or (set l n v) k d ≡ f k
filled_more f d l n v h e before k b =
    elim (dec_lt k n) [
      | yes lt ↦ get_or-set_other l n k v d (λ q. absurd (omega arith)) ∙ before k lt
      | no ge ↦ let q : k ≡ n = omega arith in ap (λ (i : ℕ). get_or (set l n v) i d) q ∙ get_or-set_same l n v d h ∙ e ∙ ap f (sym q)
    ]
