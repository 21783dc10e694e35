-- The text laid of a reading is the report of the file that was read. Assumes nothing.
use mathlib.Core.Path.{◌≡◌, refl, sym, ap, ◌∙◌}
use mathlib.Core.Bool.{Bool, true, false, cond}
use mathlib.Core.List.{List, [], ◌∷◌, ◌++◌}
use Prim.Native.Nat.{ℕ, ◌*◌, ◌≤◌, ◌<◌}
use native.Mathlib.Omega.{arith}
use lib.Dec.{eqb, ltb}
use lib.ListN.{length, get_or, length-append}
use borrow.Author.Tests.{ltb-true, ltb-false, lt-ltb, le-ltb}
use Rattle.words.specs.Small.{all, each, counting, concat_map}
use Rattle.words.proofs.Bools.{and_both, cond-true, cond-false}
use Rattle.words.proofs.Lists.{each_length, each_at}
use Rattle.lines.specs.Quoted.{quoted}
use Rattle.shelves.specs.declared.Tally.{Tally}
use Rattle.shelves.specs.declared.Reading.{Reading}
use Rattle.shelves.specs.Blocks.{blocks_of, left_over}
use Rattle.shelves.specs.Counts.{count, code_of, op_at, ops_of, ops_in, codes, refused, instructions}
use Rattle.shelves.specs.Tallies.{kept, tally_of}
use Rattle.shelves.specs.Readings.{After}
use Rattle.shelves.specs.Report.{count_line, count_lines, number_line, block_lines, other_lines, text_with, report_of, text_of}

-- HOW LARGE A COUNT CAN BE

one_most : (b : Bool) → cond b 1 0 ≤ 1
one_most true = omega arith
one_most false = omega arith

count_most : {A : Type 0} (f : A → Bool) (xs : List A) → count f xs ≤ length xs
unfolding count
count_most f [] = omega arith
count_most f (x ∷ xs) = omega (arith, one_most (f x), count_most f xs)

ops_most : (block : List ℕ) → length (ops_in block) ≤ 48
unfolding ops_of
ops_most block = step (eqb (code_of block) 0)
  where
    step : (b : Bool) → length (cond b (each 48 (op_at block)) []) ≤ 48
    step true = omega (arith, each_length (op_at block) 48)
    step false = omega arith

all_ops_most : (blocks : List (List ℕ)) → length (concat_map ops_in blocks) ≤ 48 * length blocks
all_ops_most [] = omega arith
all_ops_most (b ∷ bs) = omega (arith, length-append (ops_in b) (concat_map ops_in bs), ops_most b, all_ops_most bs)

module _ (blocks : List (List ℕ)) (few : length blocks ≤ 65535) where
  pub refused_most : (code : ℕ) → refused blocks code ≤ 65535
  refused_most code = omega (arith, count_most (λ block. eqb (code_of block) code) blocks)

  pub instructions_most : (op : ℕ) → instructions blocks op ≤ 3145680
  instructions_most op = omega (arith, count_most (λ k. eqb k op) (concat_map ops_in blocks), all_ops_most blocks)

  -- SO A TALLY HAS THE COUNTS THEMSELVES

  by_code_lem : (code : ℕ) → code < 20 → get_or (tally_of blocks).codes code 0 ≡ refused blocks code
  unfolding tally_of
  by_code_lem code h = each_at (λ k. kept (refused blocks k)) 20 code 0 h ∙ omega (arith, refused_most code)

  by_op : (op : ℕ) → op < 11 → get_or (tally_of blocks).ops op 0 ≡ instructions blocks op
  unfolding tally_of
  by_op op h = each_at (λ k. kept (instructions blocks k)) 11 op 0 h ∙ omega (arith, instructions_most op)

-- THE LINES OF EQUAL NUMBERS

lines_same : (word : List ℕ) (f g : ℕ → ℕ) (n : ℕ) → ((k : ℕ) → k < n → f k ≡ g k) → (ks : List ℕ) → all (λ k. ltb k n) ks ≡ true → count_lines word f ks ≡ count_lines word g ks
lines_same word f g n same [] h = refl
lines_same word f g n same (k ∷ ks) h =
    let both = and_both (ltb k n) (all (λ i. ltb i n) ks) h in
    ap (λ (m : ℕ). count_line word k m ++ count_lines word f ks) (same k (ltb-true k n both.0))
    ∙ ap (λ (l : List ℕ). count_line word k (g k) ++ l) (lines_same word f g n same ks both.1)

blocks_same : (n : ℕ) (f g : ℕ → ℕ) → ((k : ℕ) → k < 20 → f k ≡ g k) → block_lines n f ≡ block_lines n g
unfolding block_lines
blocks_same n f g same =
    ap (λ (m : ℕ). number_line (quoted "blocks ") n ++ (number_line (quoted "accepted ") m ++ count_lines (quoted "refused ") f codes)) (same 0 (omega arith))
    ∙ ap (λ (l : List ℕ). number_line (quoted "blocks ") n ++ (number_line (quoted "accepted ") (g 0) ++ l)) (lines_same (quoted "refused ") f g 20 same codes refl)

others_same : (n : ℕ) (f g : ℕ → ℕ) → ((k : ℕ) → k < 11 → f k ≡ g k) → other_lines n f ≡ other_lines n g
unfolding other_lines
others_same n f g same = ap (λ (l : List ℕ). number_line (quoted "over ") n ++ l) (lines_same (quoted "op ") f g 11 same (counting 1 10) refl)

-- the text of a tally and of bytes left over
abbrev tally_text : Tally → ℕ → List ℕ
tally_text t over = text_with t.blocks (λ code. get_or t.codes code 0) over (λ op. get_or t.ops op 0)

module _ (r : Reading) where
  pub text_many : 65535 < r.tally.blocks → number_line (quoted "refused ") 16 ≡ text_of r
  unfolding text_of
  text_many h = sym (cond-true (ltb 65535 r.tally.blocks) _ _ (lt-ltb 65535 r.tally.blocks h))

  pub text_few : r.tally.blocks ≤ 65535 → block_lines r.tally.blocks (λ code. get_or r.tally.codes code 0) ++ other_lines r.over (λ op. get_or r.tally.ops op 0) ≡ text_of r
  unfolding text_of
  text_few h = sym (cond-false (ltb 65535 r.tally.blocks) _ _ (le-ltb 65535 r.tally.blocks h))

module _ (blocks : List (List ℕ)) (over : ℕ) where
  told : (many : Bool) → ltb 65535 (length blocks) ≡ many
      → tally_text (tally_of blocks) over ≡ text_with (length blocks) (refused blocks) over (instructions blocks)
  unfolding tally_of
  told true e =
      cond-true (ltb 65535 (kept (length blocks))) _ _ (lt-ltb 65535 (kept (length blocks)) (omega (arith, ltb-true 65535 (length blocks) e)))
      ∙ sym (cond-true (ltb 65535 (length blocks)) _ _ e)
  told false e =
      let few : length blocks ≤ 65535 = omega (arith, ltb-false 65535 (length blocks) e) in
      let size : kept (length blocks) ≡ length blocks = omega arith in
      cond-false (ltb 65535 (kept (length blocks))) _ _ (le-ltb 65535 (kept (length blocks)) (omega arith))
      ∙ ap (λ (n : ℕ). block_lines n (λ code. get_or (tally_of blocks).codes code 0) ++ other_lines over (λ op. get_or (tally_of blocks).ops op 0)) size
      ∙ ap (λ (l : List ℕ). l ++ other_lines over (λ op. get_or (tally_of blocks).ops op 0)) (blocks_same (length blocks) _ (refused blocks) (by_code_lem blocks few))
      ∙ ap (λ (l : List ℕ). block_lines (length blocks) (refused blocks) ++ l) (others_same over _ (instructions blocks) (by_op blocks few))
      ∙ sym (cond-false (ltb 65535 (length blocks)) _ _ e)

-- THE TEXT IS THE FILE'S REPORT
pub report_read : (file : List ℕ) (r : Reading) → After file r → text_of r ≡ report_of file
unfolding text_of report_of
report_read file r known =
    ap (λ (t : Tally). tally_text t r.over) known.counts
    ∙ ap (tally_text (tally_of (blocks_of file))) known.over
    ∙ told (blocks_of file) (length (left_over file)) (ltb 65535 (length (blocks_of file))) refl
