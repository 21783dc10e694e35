-- How long a report can be: a text of 512 bytes has room for it. Assumes nothing.
use mathlib.Core.Path.{◌≡◌, refl}
use mathlib.Core.Bool.{Bool, true, false, cond}
use mathlib.Core.List.{List, [], ◌∷◌, ◌++◌}
use Prim.Native.Nat.{ℕ, ◌+◌, ◌*◌, ◌≤◌, ◌<◌}
use native.Mathlib.Nat.{mul-suc}
use native.Mathlib.Omega.{arith}
use lib.Dec.{ltb}
use lib.ListN.{length, length-append}
use borrow.Author.Tests.{ltb-true, ltb-false}
use Rattle.words.specs.Small.{all, counting}
use Rattle.words.proofs.Bools.{and_both}
use Rattle.lines.specs.Quoted.{quoted}
use Rattle.lines.proofs.Digits.{decimal_few}
use Rattle.shelves.specs.Blocks.{blocks_of, left_over}
use Rattle.shelves.specs.Counts.{codes, refused, instructions}
use Rattle.shelves.specs.Report.{number_line, count_line, count_lines, block_lines, other_lines, report_of}
use Rattle.shelves.proofs.Splitting.{left-length}
use Rattle.shelves.proofs.Reported.{refused_most, instructions_most}

number_short : (word : List ℕ) (n : ℕ) → n < 10000000 → length (number_line word n) ≤ length word + 8
unfolding number_line
number_short word n h = simp length-append (omega (arith, decimal_few 6 n (omega arith)))

count_short : (word : List ℕ) (k n : ℕ) → k < 100 → n < 10000000 → length (count_line word k n) ≤ length word + 11
unfolding count_line
count_short word k n h l = simp length-append (omega (arith, decimal_few 1 k (omega arith), decimal_few 6 n (omega arith)))

counts_short : (word : List ℕ) (counts : ℕ → ℕ) → ((k : ℕ) → counts k < 10000000) → (ks : List ℕ) → all (λ k. ltb k 100) ks ≡ true → length (count_lines word counts ks) ≤ (length word + 11) * length ks
counts_short word counts small [] h = omega arith
counts_short word counts small (k ∷ ks) h =
    let both = and_both (ltb k 100) (all (λ i. ltb i 100) ks) h in
    let one = count_short word k (counts k) (ltb-true k 100 both.0) (small k) in
    let rest = counts_short word counts small ks both.1 in
    omega (arith, length-append (count_line word k (counts k)) (count_lines word counts ks), mul-suc (length word + 11) (length ks))

either : (b : Bool) (s t : List ℕ) (n : ℕ) → length s ≤ n → (b ≡ false → length t ≤ n) → length (cond b s t) ≤ n
either true s t n h k = h
either false s t n h k = k refl

blocks_short : (blocks : ℕ) (by_code : ℕ → ℕ) → blocks < 10000000 → ((k : ℕ) → by_code k < 10000000) → length (block_lines blocks by_code) ≤ 165
unfolding block_lines
blocks_short blocks by_code b c =
    let first = number_line (quoted "blocks ") blocks in
    let second = number_line (quoted "accepted ") (by_code 0) in
    let others = count_lines (quoted "refused ") by_code codes in
    omega (
      arith,
      length-append first (second ++ others),
      length-append second others,
      number_short (quoted "blocks ") blocks b,
      number_short (quoted "accepted ") (by_code 0) (c 0),
      counts_short (quoted "refused ") by_code c codes refl,
    )

others_short : (over : ℕ) (byOp : ℕ → ℕ) → over < 10000000 → ((k : ℕ) → byOp k < 10000000) → length (other_lines over byOp) ≤ 153
unfolding other_lines
others_short over byOp o p =
    omega (
      arith,
      length-append (number_line (quoted "over ") over) (count_lines (quoted "op ") byOp (counting 1 10)),
      number_short (quoted "over ") over o,
      counts_short (quoted "op ") byOp p (counting 1 10) refl,
    )

pub report_short : (file : List ℕ) → length (report_of file) ≤ 318
unfolding report_of
report_short file =
    let blocks = blocks_of file in
    let over = length (left_over file) in
    either (ltb 65535 (length blocks)) _ _ 318 (omega (arith, number_short (quoted "refused ") 16 (omega arith))) λ e.
    let few : length blocks ≤ 65535 = omega (arith, ltb-false 65535 (length blocks) e) in
    omega (
      arith,
      length-append (block_lines (length blocks) (refused blocks)) (other_lines over (instructions blocks)),
      blocks_short (length blocks) (refused blocks) (omega arith) (λ k. omega (arith, refused_most blocks few k)),
      others_short over (instructions blocks) (omega (arith, left-length file)) (λ k. omega (arith, instructions_most blocks few k)),
    )
