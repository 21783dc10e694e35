-- One line more behind those that are laid. Assumes nothing.
use mathlib.Core.Path.{◌≡◌, sym, ap, ◌∙◌}
use mathlib.Core.List.{List, [], ◌∷◌, ◌++◌, append-nil}
use Prim.Native.Nat.{ℕ, zero, suc, ◌+◌}
use native.Mathlib.Nat.{add-zero}
use native.Mathlib.Numerals.{add-one}
use native.Mathlib.Omega.{arith}
use Rattle.words.specs.Small.{counting}
use Rattle.words.proofs.Lists.{concat_map-append}
use Rattle.lines.specs.Laid.{Laid}
use Rattle.lines.proofs.Behind.{laid_then, laid_as}
use Rattle.shelves.specs.Report.{count_line, count_lines}

counting_more : (from n : ℕ) → counting from (suc n) ≡ counting from n ++ ((from + n) ∷ [])
counting_more from zero = ap (λ (k : ℕ). k ∷ []) (sym (add-zero from))
counting_more from (suc n) =
    let q : suc from + n ≡ from + suc n = omega arith in
    ap (λ (l : List ℕ). from ∷ l) (counting_more (suc from) n ∙ ap (λ (k : ℕ). counting (suc from) n ++ (k ∷ [])) q)

module _ (word : List ℕ) (counts : ℕ → ℕ) (from i : ℕ) where
  lines_more : count_lines word counts (counting from i) ++ count_line word (from + i) (counts (from + i)) ≡ count_lines word counts (counting from (i + 1))
  lines_more =
      ap (λ (l : List ℕ). count_lines word counts (counting from i) ++ l) (sym (append-nil (count_line word (from + i) (counts (from + i)))))
      ∙ sym (concat_map-append (λ k. count_line word k (counts k)) (counting from i) ((from + i) ∷ []))
      ∙ ap (count_lines word counts) (sym (counting_more from i) ∙ ap (counting from) (sym (add-one i)))

  pub laid_more :
      {a b c : List ℕ} {at j end n : ℕ} → Laid a at (count_lines word counts (counting from i)) b j → n ≡ counts (from + i) → Laid b j (count_line word (from + i) n) c end
      → Laid a at (count_lines word counts (counting from (i + 1))) c end
  laid_more before e next = laid_as lines_more (laid_then before (laid_as (ap (count_line word (from + i)) e) next))
