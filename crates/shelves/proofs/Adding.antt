-- Elements counted one after the other. Assumes nothing.
use mathlib.Core.Path.{◌≡◌, refl, sym, ap, ◌∙◌}
use mathlib.Core.List.{List, [], ◌∷◌, ◌++◌, foldl, foldl-append}
use Prim.Native.Nat.{ℕ, ◌+◌, ◌/◌}
use native.Mathlib.Numerals.{add-one}
use lib.ListN.{length}
use Rattle.words.specs.Small.{each}
use Rattle.words.proofs.Lists.{each_more}
use Rattle.shelves.specs.declared.Tally.{Tally}
use Rattle.shelves.specs.Blocks.{block_at, blocks_of}
use Rattle.shelves.specs.Counts.{op_at, ops_of}
use Rattle.shelves.specs.Tallies.{raised, raised_all, counted, counted_all}

-- one element more
foldl_more : {A B : Type 0} (f : B → A → B) (b : B) (g : ℕ → A) (i : ℕ) → f (foldl f b (each i g)) (g i) ≡ foldl f b (each (i + 1) g)
foldl_more f b g i =
    sym (foldl-append f b (each i g) (g i ∷ []))
    ∙ ap (foldl f b) (sym (each_more g i) ∙ ap (λ (n : ℕ). each n g) (sym (add-one i)))

pub none-raised : (counts : List ℕ) → counts ≡ raised_all counts []
unfolding raised_all
none-raised counts = refl

-- one slot more
pub op_raised : (counts block : List ℕ) (n : ℕ) → raised (raised_all counts (each n (op_at block))) (op_at block n) ≡ raised_all counts (each (n + 1) (op_at block))
unfolding raised_all
op_raised counts block n = foldl_more raised counts (op_at block) n

pub all_raised : (counts block : List ℕ) → raised_all counts (each 48 (op_at block)) ≡ raised_all counts (ops_of block)
unfolding ops_of
all_raised counts block = refl

pub counted-append : (t : Tally) (bs cs : List (List ℕ)) → counted_all t (bs ++ cs) ≡ counted_all (counted_all t bs) cs
unfolding counted_all
counted-append t bs cs = foldl-append counted t bs cs

module _ (t : Tally) (ys : List ℕ) where
  pub none_yet : t ≡ counted_all t (each 0 (block_at ys))
  unfolding counted_all
  none_yet = refl

  pub one_more : (i : ℕ) → counted (counted_all t (each i (block_at ys))) (block_at ys i) ≡ counted_all t (each (i + 1) (block_at ys))
  unfolding counted_all
  one_more i = foldl_more counted t (block_at ys) i

  -- all whole blocks
  pub all_counted : counted_all t (each (length ys / 512) (block_at ys)) ≡ counted_all t (blocks_of ys)
  unfolding blocks_of
  all_counted = refl
