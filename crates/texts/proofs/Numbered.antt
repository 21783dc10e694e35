-- Words laid one behind the other, a space before each, and how long they are. Assumes nothing.
use mathlib.Core.Path.{◌≡◌, ap, sym, ◌∙◌, subst}
use mathlib.Core.List.{List, [], ◌∷◌, ◌++◌, map, append_assoc, append-nil}
use Prim.Native.Nat.{ℕ, ◌+◌, ◌*◌, ◌≤◌, ◌<◌}
use native.Mathlib.Omega.{arith}
use native.Mathlib.Numerals.{add-one}
use lib.ListN.{length, get_or, take, length-append}
use lib.Seq.{take-suc, take-length}
use Rattle.std.proofs.lemmas.List.{map-append}
use Rattle.words.proofs.Lists.{concat_map-append}
use Rattle.cases.specs.declared.Expr.{Expr}
use Rattle.cases.specs.declared.Instr.{Instr}
use Rattle.lines.specs.Laid.{Laid, LaidShort}
use Rattle.lines.specs.Decimal.{decimal}
use Rattle.lines.proofs.Behind.{laid_then, laid_as}
use Rattle.lines.proofs.Digits.{decimal_few}
use Rattle.texts.specs.Text.{spaced, expr_words, instr_words, body}
use Rattle.texts.specs.Rows.{line_of, tails, numbered}
use Rattle.texts.specs.declared.Row.{Row}

-- a space and a number
pub number_laid : {a b c : List ℕ} {i j k : ℕ} (n : ℕ) → n < 65536 → Laid a i (32 ∷ []) b j → Laid b j (decimal n) c k → LaidShort 6 a i (numbered [] (n ∷ [])) c k
number_laid n h x y = record { laid = laid_as (ap (λ (l : List ℕ). 32 ∷ l) (sym (append-nil (decimal n)))) (laid_then x y); short = omega (arith, decimal_few 4 n (omega arith), length-append (decimal n) []) }

-- words more
tails_more : (w : List ℕ) (ws vs : List (List ℕ)) → (w ++ tails ws) ++ tails vs ≡ w ++ tails (ws ++ vs)
tails_more w ws vs = append_assoc w (tails ws) (tails vs) ∙ ap (λ (l : List ℕ). w ++ l) (sym (concat_map-append (λ (w : List ℕ). 32 ∷ w) ws vs))

-- a word alone, and one number more behind it
pub word_laid : {a b : List ℕ} {i j m : ℕ} (w : List ℕ) → length w ≤ m → Laid a i w b j → LaidShort m a i (numbered w []) b j
word_laid w h x = record { laid = laid_as (sym (append-nil w)) x; short = omega (arith, length-append w []) }

pub number_more : {a b c : List ℕ} {i j k m n : ℕ} (w ns : List ℕ) (x : ℕ) → n ≡ m + 6 → LaidShort m a i (numbered w ns) b j → LaidShort 6 b j (numbered [] (x ∷ [])) c k → LaidShort n a i (numbered w (ns ++ (x ∷ []))) c k
number_more w ns x q y z =
    let e = tails_more w (map decimal ns) (decimal x ∷ []) ∙ ap (λ (ws : List (List ℕ)). w ++ tails ws) (sym (map-append decimal ns (x ∷ []))) in
    record { laid = laid_as e (laid_then y.laid z.laid); short = omega (arith, q, y.short, z.short, ap length e, length-append (w ++ tails (map decimal ns)) (tails (decimal x ∷ []))) }

-- the loop: one number more, all of them
pub numbers_next : {a b c : List ℕ} {i j k : ℕ} (w ns : List ℕ) (n : ℕ) → n < length ns → LaidShort (length w + 6 * n) a i (numbered w (take n ns)) b j → LaidShort 6 b j (numbered [] (get_or ns n 0 ∷ [])) c k → LaidShort (length w + 6 * (n + 1)) a i (numbered w (take (n + 1) ns)) c k
numbers_next {a} {b} {c} {i} {j} {k} w ns n h x y =
    let more : take (n + 1) ns ≡ take n ns ++ (get_or ns n 0 ∷ []) = rw (add-one, take-suc ns n 0 h) in
    subst (λ (t : List ℕ). LaidShort (length w + 6 * (n + 1)) a i (numbered w t) c k) (sym more) (number_more w (take n ns) (get_or ns n 0) (omega arith) x y)

pub numbers_all : {a b : List ℕ} {i j : ℕ} (w ns : List ℕ) (n : ℕ) → n ≡ length ns → LaidShort (length w + 6 * n) a i (numbered w (take n ns)) b j → LaidShort (length w + 6 * length ns) a i (numbered w ns) b j
numbers_all {a} {b} {i} {j} w ns n h x = subst (λ (t : List ℕ). LaidShort (length w + 6 * length ns) a i (numbered w t) b j) (take-length ns) (subst (λ (n : ℕ). LaidShort (length w + 6 * n) a i (numbered w (take n ns)) b j) h x)

-- by kind
pub expr_laid : {a b : List ℕ} {i j : ℕ} (d : ℕ) (e x : Expr) (n : ℕ) → n ≤ 26 → e ≡ x → LaidShort n a i (tails (expr_words d x)) b j → LaidShort 26 a i (tails (expr_words d e)) b j
expr_laid {a} {b} {i} {j} d e x n h q y = subst (λ (x : Expr). LaidShort 26 a i (tails (expr_words d x)) b j) (sym q) (record { laid = y.laid; short = omega (arith, y.short) })

pub instr_laid : {a b : List ℕ} {i j : ℕ} (e x : Instr) (n : ℕ) → n ≤ 26 → e ≡ x → LaidShort n a i (tails (instr_words x)) b j → LaidShort 26 a i (tails (instr_words e)) b j
instr_laid {a} {b} {i} {j} e x n h q y = subst (λ (x : Instr). LaidShort 26 a i (tails (instr_words x)) b j) (sym q) (record { laid = y.laid; short = omega (arith, y.short) })

pub spaced-tails : (w : List ℕ) (ws : List (List ℕ)) → w ++ tails ws ≡ spaced w ws
unfolding spaced
spaced-tails w [] = append-nil w
spaced-tails w (v ∷ ws) = ap (λ (l : List ℕ). w ++ (32 ∷ l)) (spaced-tails v ws)

pub row_laid : {a b : List ℕ} {i j : ℕ} (row x : Row) (w : List ℕ) (ws : List (List ℕ)) (n : ℕ) → n ≤ 39 → row ≡ x → spaced w ws ≡ body (line_of x) → LaidShort n a i (w ++ tails ws) b j → LaidShort 39 a i (body (line_of row)) b j
row_laid {a} {b} {i} {j} row x w ws n h q e y =
    let f = spaced-tails w ws ∙ e in
    subst (λ (x : Row). LaidShort 39 a i (body (line_of x)) b j) (sym q) (record { laid = laid_as f y.laid; short = omega (arith, y.short, ap length f) })

-- an instruction behind its processor's number
pub op_laid : {a b c : List ℕ} {i j k : ℕ} (w : List ℕ) (p : ℕ) (x : Instr) {m : ℕ} → LaidShort m a i (numbered w (p ∷ [])) b j → LaidShort 26 b j (tails (instr_words x)) c k → LaidShort (m + 26) a i (w ++ tails (decimal p ∷ instr_words x)) c k
op_laid w p x y z =
    let e = tails_more w (decimal p ∷ []) (instr_words x) in
    record { laid = laid_as e (laid_then y.laid z.laid); short = omega (arith, y.short, z.short, ap length e, length-append (w ++ tails (decimal p ∷ [])) (tails (instr_words x))) }
