-- Lists by their numbers: tests over 0, 1, .., and blocks of one width. Assumes nothing.
use mathlib.Core.Path.{◌≡◌, refl, sym, ◌∙◌, ap}
use mathlib.Core.Bool.{Bool, true, false, ◌&&◌}
use mathlib.Core.List.{List}
use Prim.Native.Nat.{ℕ, zero, suc, ◌+◌, ◌*◌, ◌<◌}
use native.Mathlib.Nat.{add-zero}
use native.Mathlib.Numerals.{add-one}
use native.Mathlib.Omega.{arith}
use lib.ListN.{length, get_or}
use Rattle.words.specs.Small.{all, counting, concat_map}
use Rattle.words.proofs.Lists.{concat_map-length, concat_map_at}
use Rattle.words.proofs.Bools.{and_true}

and_assoc : (a b c : Bool) → (a && (b && c)) ≡ ((a && b) && c)
and_assoc true b c = refl
and_assoc false b c = refl

all_from : (f : ℕ → Bool) (a n : ℕ) → all f (counting a (suc n)) ≡ (all f (counting a n) && f (a + n))
all_from f a zero = and_true (f a) ∙ ap f (sym (add-zero a))
all_from f a (suc n) = ap (λ (b : Bool). f a && b) (all_from f (suc a) n ∙ ap (λ (k : ℕ). all f (counting (suc a) n) && f k) (omega arith)) ∙ and_assoc (f a) (all f (counting (suc a) n)) (f (a + suc n))

-- every number below n + 1: those below n, and n
pub all_next : (f : ℕ → Bool) (n : ℕ) (b h : Bool) → b ≡ all f (counting 0 n) → h ≡ f n → (b && h) ≡ all f (counting 0 (n + 1))
all_next f n b h hb hh = rw (add-one, hb, hh) (sym (all_from f 0 n ∙ ap (λ (k : ℕ). all f (counting 0 n) && f k) (omega arith)))

counting_long : (k n : ℕ) → length (counting k n) ≡ n
counting_long k zero = refl
counting_long k (suc n) = ap suc (counting_long (suc k) n)

counting_at : (k n i : ℕ) → i < n → get_or (counting k n) i 0 ≡ k + i
counting_at k zero i h = absurd (omega arith)
counting_at k (suc n) zero h = sym (add-zero k)
counting_at k (suc n) (suc i) h = counting_at (suc k) n i (omega arith) ∙ omega arith

-- the blocks that f gives of 0, 1, .., n - 1
module _ (f : ℕ → List ℕ) (w : ℕ) (wide : (k : ℕ) → length (f k) ≡ w) (n : ℕ) where
  pub blocks_long : length (concat_map f (counting 0 n)) ≡ w * n
  blocks_long = concat_map-length f w wide (counting 0 n) ∙ ap (λ (m : ℕ). w * m) (counting_long 0 n)

  pub block_at : (k j : ℕ) → k < n → j < w → get_or (concat_map f (counting 0 n)) (w * k + j) 0 ≡ get_or (f k) j 0
  block_at k j lt low =
      let q : k < length (counting 0 n) = omega (arith, counting_long 0 n) in
      let e : get_or (counting 0 n) k 0 ≡ k = counting_at 0 n k lt ∙ omega arith in
      concat_map_at f w wide (counting 0 n) k j 0 0 q low ∙ ap (λ (i : ℕ). get_or (f i) j 0) e
