-- Pieces laid one behind the other by a loop: what is laid after k turns, and how long it is. Assumes nothing.
use mathlib.Core.Path.{◌≡◌, sym, ap, ◌∙◌}
use mathlib.Core.List.{List, [], ◌∷◌, ◌++◌, append_assoc, append-nil}
use Prim.Native.Nat.{ℕ, zero, suc, ◌+◌, ◌*◌, ◌≤◌}
use native.Mathlib.Nat.{add-zero, zero-add, mul-suc}
use native.Mathlib.Numerals.{add-one}
use native.Mathlib.Omega.{arith}
use lib.ListN.{length, length-append}
use Rattle.words.specs.Small.{counting, concat_map}
use Rattle.words.proofs.Lists.{concat_map-append}
use Rattle.records.specs.Buffer.{record_at, records_in}
use Rattle.records.proofs.Buffer.{records_add}
use Rattle.lines.specs.Laid.{Laid}
use Rattle.lines.proofs.Behind.{laid_then, laid_none, laid_as}

-- After k pieces of at most m bytes each.
pub record Rows (m : ℕ) (before : List ℕ) (at : ℕ) (text after : List ℕ) (end k : ℕ) : Type 0 where
  pub laid : Laid before at text after end
  pub short : length text ≤ m * k

pub rows_none : (m : ℕ) (before : List ℕ) (at : ℕ) → Rows m before at [] before at 0
rows_none m before at = record { laid = laid_none before at; short = omega arith }

pub rows_more : {m : ℕ} {a b c : List ℕ} {i j k n : ℕ} {s t u : List ℕ} → Rows m a i s b j n → Laid b j t c k → length t ≤ m → u ≡ s ++ t → Rows m a i u c k (n + 1)
rows_more {m} {n = n} {s = s} {t} x y few e = record { laid = laid_as (sym e) (laid_then x.laid y); short = omega (arith, x.short, mul-suc m n, ap (λ (k : ℕ). m * k) (add-one n), ap length e, length-append s t) }

-- one piece more
pub counted_more : (f : ℕ → List ℕ) (n : ℕ) → concat_map f (counting 0 (n + 1)) ≡ concat_map f (counting 0 n) ++ f n
counted_more f n = ap (λ (k : ℕ). concat_map f (counting 0 k)) (add-one n) ∙ more 0 n ∙ ap (λ (k : ℕ). concat_map f (counting 0 n) ++ f k) (zero-add n)
  where
    more : (i n : ℕ) → concat_map f (counting i (suc n)) ≡ concat_map f (counting i n) ++ f (i + n)
    more i zero = append-nil (f i) ∙ ap f (sym (add-zero i))
    more i (suc n) =
        let e : suc i + n ≡ i + suc n = omega arith in
        ap (λ (l : List ℕ). f i ++ l) (more (suc i) n ∙ ap (λ (k : ℕ). concat_map f (counting (suc i) n) ++ f k) e)
        ∙ sym (append_assoc (f i) (concat_map f (counting (suc i) n)) (f (i + suc n)))

-- one record more
pub recorded_more : (f : List ℕ → List ℕ) (bytes : List ℕ) (n : ℕ) → concat_map f (records_in (n + 1) bytes) ≡ concat_map f (records_in n bytes) ++ f (record_at bytes n)
unfolding records_in
recorded_more f bytes n =
    ap (concat_map f) (records_add n 1 bytes)
    ∙ concat_map-append f (records_in n bytes) (record_at bytes n ∷ [])
    ∙ ap (λ (l : List ℕ). concat_map f (records_in n bytes) ++ l) (append-nil (f (record_at bytes n)))
