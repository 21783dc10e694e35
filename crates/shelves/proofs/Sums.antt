-- Accepted plus all refused are the whole blocks. Assumes nothing.
use mathlib.Core.Path.{◌≡◌, refl, sym, ap, ◌∙◌}
use mathlib.Core.Logic.{⊎_elim}
use mathlib.Core.Bool.{Bool, true, false, ◌&&◌, ◌||◌, not, cond, false≢true}
use mathlib.Core.List.{List, [], ◌∷◌}
use Prim.Native.Nat.{ℕ, suc, ◌+◌, ◌*◌, ◌/◌, ◌<◌}
use native.Mathlib.Omega.{arith}
use lib.Dec.{eqb, ltb}
use lib.ListN.{length, get_or, drop, length-take, length-drop}
use borrow.Author.Tests.{eqb-true, eq-eqb, ltb-true}
use Rattle.words.specs.Small.{any}
use Rattle.words.specs.Refusals.{Refusal, ◌when◌, first_code_of}
use Rattle.words.proofs.Bools.{any_cases, all_at, and_both, or_cases}
use Rattle.words.proofs.First.{not_no}
use Rattle.words.proofs.Lists.{all_below, each_length, each_at}
use Rattle.cases.specs.Block.{refusals}
use Rattle.shelves.specs.Blocks.{block_at, blocks_of}
use Rattle.shelves.specs.Counts.{count, code_of, total, codes, accepted, refused}

-- a code that has a line, 0 for that of the accepted
abbrev listed : List ℕ
listed = 0 ∷ codes

abbrev known : ℕ → Bool
known k = any (eqb k) listed

-- THE FIRST OF KNOWN CODES IS ONE

abbrev all_known : List Refusal → Bool
all_known [] = true
all_known (code when test ∷ rest) = known code && all_known rest

chosen : (test : Bool) (a b : ℕ) → known a ≡ true → known b ≡ true → known (cond test a b) ≡ true
chosen true a b h k = h
chosen false a b h k = k

first_known : (rs : List Refusal) → all_known rs ≡ true → known (first_code_of rs) ≡ true
unfolding first_code_of
first_known [] h = refl
first_known (code when test ∷ rest) h =
    let both = and_both (known code) (all_known rest) h in
    chosen test code (first_code_of rest) both.0 (first_known rest both.1)

-- what is tried after 1
abbrev later : List Refusal → List Refusal
later [] = []
later (first ∷ rest) = rest

passed_one : (test : Bool) (rest : List Refusal) → test ≡ false → all_known rest ≡ true → known (first_code_of (1 when test ∷ rest)) ≡ true
unfolding first_code_of
passed_one true rest h k = absurd (false≢true (sym h))
passed_one false rest h k = first_known rest k

code_known : (block : List ℕ) → length block ≡ 512 → known (code_of block) ≡ true
code_known block long = passed_one (not (eqb (length block) 512)) (later (refusals block)) (not_no (eqb (length block) 512) (eq-eqb (length block) 512 long)) refl

-- A KNOWN CODE STANDS IN THE LIST ONCE

abbrev is_once : ℕ → Bool
is_once k = not (known k) || eqb (total (λ code. cond (eqb k code) 1 0) listed) 1

known_small : (k : ℕ) → known k ≡ true → k < 20
known_small k h =
    let r = any_cases (eqb k) listed h in
    omega (arith, eqb-true k r.0 r.2, ltb-true r.0 20 (all_at (λ code. ltb code 20) r.1 refl))

once : (k : ℕ) → known k ≡ true → total (λ code. cond (eqb k code) 1 0) listed ≡ 1
once k h =
    ⊎_elim
    (λ no. absurd (false≢true (sym (not_no (known k) h) ∙ no)))
    (λ yes. eqb-true _ 1 yes)
    (or_cases (not (known k)) _ (all_below is_once 20 refl k (known_small k h)))

-- THE SUM

total-add : (f g : ℕ → ℕ) (ks : List ℕ) → total (λ k. f k + g k) ks ≡ total f ks + total g ks
total-add f g [] = refl
total-add f g (k ∷ ks) = omega (arith, total-add f g ks)

total-zero : (ks : List ℕ) → total (λ k. 0) ks ≡ 0
total-zero [] = refl
total-zero (k ∷ ks) = omega (arith, total-zero ks)

all_told : (bs : List (List ℕ)) → ((i : ℕ) → i < length bs → length (get_or bs i []) ≡ 512) → total (refused bs) listed ≡ length bs
unfolding count
all_told [] h = total-zero listed
all_told (b ∷ bs) h =
    total-add (λ code. cond (eqb (code_of b) code) 1 0) (refused bs) listed
    ∙ omega (arith, once (code_of b) (code_known b (h 0 (omega arith))), all_told bs (λ i l. h (suc i) (omega arith)))

block_long : (file : List ℕ) (i : ℕ) → i < length (blocks_of file) → length (get_or (blocks_of file) i []) ≡ 512
unfolding blocks_of
block_long file i h =
    let n = length file / 512 in
    let l : i < n = omega (arith, each_length (block_at file) n) in
    ap length (each_at (block_at file) n i [] l)
    ∙ omega (arith, length-take 512 (drop (512 * i) file), length-drop (512 * i) file)

-- ACCEPTED PLUS ALL REFUSED ARE THE WHOLE BLOCKS, all three counted from the file
pub blocks_told : (file : List ℕ) → accepted (blocks_of file) + total (refused (blocks_of file)) codes ≡ length (blocks_of file)
blocks_told file = all_told (blocks_of file) (block_long file)
