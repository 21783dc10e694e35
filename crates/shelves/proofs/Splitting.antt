-- The blocks of a file that is cut in two. Assumes nothing.
use mathlib.Core.Path.{◌≡◌, sym, ap, ◌∙◌}
use mathlib.Core.List.{List, [], ◌∷◌, ◌++◌, append_assoc, append-nil}
use Prim.Native.Nat.{ℕ, zero, suc, ◌+◌, ◌*◌, ◌/◌, ◌%◌, ◌<◌}
use native.Mathlib.Nat.{add-zero}
use native.Mathlib.Omega.{arith}
use lib.ListN.{length, take, drop, length-append, length-take, length-drop, take-append-drop}
use lib.Seq.{take-append-le, drop-append-le, drop-append-add}
use Rattle.words.specs.Small.{each}
use Rattle.words.proofs.Lists.{each_more, each_same}
use Rattle.shelves.specs.Blocks.{block_at, blocks_of, left_over}

each_split : {A : Type 0} (h : ℕ → A) (a b : ℕ) → each (a + b) h ≡ each a h ++ each b (λ i. h (a + i))
each_split h a zero = ap (λ (n : ℕ). each n h) (add-zero a) ∙ sym (append-nil (each a h))
each_split h a (suc b) =
    let q : a + suc b ≡ suc (a + b) = omega arith in
    ap (λ (n : ℕ). each n h) q
    ∙ each_more h (a + b)
    ∙ ap (λ (l : List _). l ++ (h (a + b) ∷ [])) (each_split h a b)
    ∙ append_assoc (each a h) (each b (λ i. h (a + i))) (h (a + b) ∷ [])
    ∙ ap (λ (l : List _). each a h ++ l) (sym (each_more (λ i. h (a + i)) b))

-- the first part ends where a block ends
module _ (f g : List ℕ) (whole : length f % 512 ≡ 0) where
  abbrev a : ℕ
  a = length f / 512

  abbrev b : ℕ
  b = length g / 512

  front : (i : ℕ) → i < a → block_at (f ++ g) i ≡ block_at f i
  front i h =
      ap (take 512) (drop-append-le (512 * i) f g (omega arith))
      ∙ take-append-le 512 (drop (512 * i) f) g (omega (arith, length-drop (512 * i) f))

  back : (i : ℕ) → block_at (f ++ g) (a + i) ≡ block_at g i
  back i =
      let q : 512 * (a + i) ≡ length f + 512 * i = omega arith in
      ap (λ (n : ℕ). take 512 (drop n (f ++ g))) q ∙ ap (take 512) (drop-append-add f g (512 * i))

  pub blocks_append : blocks_of (f ++ g) ≡ blocks_of f ++ blocks_of g
  unfolding blocks_of
  blocks_append =
      let q : length (f ++ g) / 512 ≡ a + b = omega (arith, length-append f g) in
      ap (λ (n : ℕ). each n (block_at (f ++ g))) q
      ∙ each_split (block_at (f ++ g)) a b
      ∙ ap (λ (l : List (List ℕ)). l ++ each b (λ i. block_at (f ++ g) (a + i))) (each_same (block_at (f ++ g)) (block_at f) a front)
      ∙ ap (λ (l : List (List ℕ)). each a (block_at f) ++ l) (each_same (λ i. block_at (f ++ g) (a + i)) (block_at g) b (λ i h. back i))

  pub left-append : left_over (f ++ g) ≡ left_over g
  unfolding left_over
  left-append =
      let q : 512 * (length (f ++ g) / 512) ≡ length f + 512 * b = omega (arith, length-append f g) in
      ap (λ (n : ℕ). drop n (f ++ g)) q ∙ drop-append-add f g (512 * b)

-- fewer bytes than a block has
module _ (x : List ℕ) (short : length x < 512) where
  pub blocks_short : blocks_of x ≡ []
  unfolding blocks_of
  blocks_short = let q : length x / 512 ≡ 0 = omega arith in ap (λ (n : ℕ). each n (block_at x)) q

  pub left_short : left_over x ≡ x
  unfolding left_over
  left_short = let q : 512 * (length x / 512) ≡ 0 = omega arith in ap (λ (n : ℕ). drop n x) q

pub left-length : (file : List ℕ) → length (left_over file) ≡ length file % 512
unfolding left_over
left-length file = omega (arith, length-drop (512 * (length file / 512)) file)

-- of what was read, only the bytes left over matter to what comes
module _ (file more : List ℕ) where
  abbrev read : List ℕ
  read = take (512 * (length file / 512)) file

  read_whole : length read % 512 ≡ 0
  read_whole = omega (arith, length-take (512 * (length file / 512)) file)

  cut : file ≡ read ++ left_over file
  unfolding left_over
  cut = sym (take-append-drop (512 * (length file / 512)) file)

  joined : file ++ more ≡ read ++ (left_over file ++ more)
  joined = ap (λ (l : List ℕ). l ++ more) cut ∙ append_assoc read (left_over file) more

  same_blocks : blocks_of file ≡ blocks_of read
  same_blocks =
      ap blocks_of cut
      ∙ blocks_append read (left_over file) read_whole
      ∙ ap (λ (l : List (List ℕ)). blocks_of read ++ l) (blocks_short (left_over file) (omega (arith, left-length file)))
      ∙ append-nil (blocks_of read)

  pub blocks_on : blocks_of (file ++ more) ≡ blocks_of file ++ blocks_of (left_over file ++ more)
  blocks_on =
      ap blocks_of joined
      ∙ blocks_append read (left_over file ++ more) read_whole
      ∙ ap (λ (l : List (List ℕ)). l ++ blocks_of (left_over file ++ more)) (sym same_blocks)

  pub left_on : left_over (file ++ more) ≡ left_over (left_over file ++ more)
  left_on = ap left_over joined ∙ left-append read (left_over file ++ more) read_whole
