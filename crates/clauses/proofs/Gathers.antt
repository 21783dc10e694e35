-- Gathering the clauses of a list, one after the other: all are counted, and the first eight held. Assumes nothing.
use mathlib.Core.Path.{◌≡◌, refl, sym, ap, ◌∙◌}
use Prim.Native.Nat.{ℕ, zero, suc, ◌+◌, ◌<◌, ◌≤◌}
use native.Mathlib.Nat.{not-suc-le-zero, le_of_suc-le-suc, add-zero}
use native.Mathlib.Numerals.{add-one}
use native.Mathlib.Omega.{arith}
use mathlib.Core.Bool.{Bool, true, false, false≢true}
use mathlib.Core.List.{List, [], ◌∷◌, ◌++◌, append-nil, append_assoc}
use lib.Dec.{ltb}
use lib.ListN.{length, get_or, take, set, length-set}
use borrow.Author.Tests.{lt-ltb}
use Rattle.clauses.specs.declared.Asked.{Asked}
use Rattle.clauses.specs.declared.Clause.{Clause}
use Rattle.clauses.specs.Wanted.{no_clause, no_clauses, with_clause, with_all, gathered, pick_asked}

pub none_yet : (cs : List Clause) → no_clauses ≡ with_all no_clauses (take 0 cs)
unfolding with_all
none_yet cs = refl

next : (a : Asked) (cs : List Clause) (i : ℕ) → i < length cs → with_clause (with_all a (take i cs)) (get_or cs i no_clause) ≡ with_all a (take (suc i) cs)
unfolding with_all
next a [] i l = absurd (not-suc-le-zero l)
next a (c ∷ cs) zero l = refl
next a (c ∷ cs) (suc i) l = next (with_clause a c) cs i (le_of_suc-le-suc l)

pub one_more : (cs : List Clause) (i : ℕ) → i < length cs → with_clause (with_all no_clauses (take i cs)) (get_or cs i no_clause) ≡ with_all no_clauses (take (i + 1) cs)
one_more cs i l = next no_clauses cs i l ∙ ap (λ (k : ℕ). with_all no_clauses (take k cs)) (sym (add-one i))

take_all : (cs : List Clause) → take (length cs) cs ≡ cs
take_all [] = refl
take_all (c ∷ cs) = ap (λ (xs : List Clause). c ∷ xs) (take_all cs)

pub all_of : (cs : List Clause) → with_all no_clauses (take (length cs) cs) ≡ gathered cs
all_of cs = ap (with_all no_clauses) (take_all cs)

-- all are counted, and as many are held as before

picked : (z : Bool) (a b : Asked) (n : ℕ) → a.count ≡ n → b.count ≡ n → (pick_asked z a b).count ≡ n
picked true a b n ha hb = ha
picked false a b n ha hb = hb

picked_long : (z : Bool) (a b : Asked) (n : ℕ) → length a.clauses ≡ n → length b.clauses ≡ n → length (pick_asked z a b).clauses ≡ n
picked_long true a b n ha hb = ha
picked_long false a b n ha hb = hb

module _ (a : Asked) (c : Clause) where
  kept : Asked
  kept = record { clauses = set a.clauses a.count c; count = a.count + 1 }

  passed_over : Asked
  passed_over = record { clauses = a.clauses; count = a.count + 1 }

  one_count : (with_clause a c).count ≡ a.count + 1
  unfolding kept passed_over
  one_count = picked (ltb a.count 8) kept passed_over (a.count + 1) refl refl

  one_long : length (with_clause a c).clauses ≡ length a.clauses
  unfolding kept passed_over
  one_long = picked_long (ltb a.count 8) kept passed_over (length a.clauses) (length-set a.clauses a.count c) refl

count_all : (a : Asked) (cs : List Clause) → (with_all a cs).count ≡ a.count + length cs
unfolding with_all
count_all a [] = omega arith
count_all a (c ∷ cs) = omega (arith, count_all (with_clause a c) cs, one_count a c)

long_all : (a : Asked) (cs : List Clause) → length (with_all a cs).clauses ≡ length a.clauses
unfolding with_all
long_all a [] = refl
long_all a (c ∷ cs) = long_all (with_clause a c) cs ∙ one_long a c

take_few : (cs : List Clause) (i : ℕ) → length (take i cs) ≤ i
take_few [] zero = omega arith
take_few [] (suc i) = omega arith
take_few (c ∷ cs) zero = omega arith
take_few (c ∷ cs) (suc i) = omega (arith, take_few cs i)

pub count_at : (cs : List Clause) (i : ℕ) → (with_all no_clauses (take i cs)).count ≤ i
count_at cs i = omega (arith, count_all no_clauses (take i cs), take_few cs i)

pub gathered-count : (cs : List Clause) → (gathered cs).count ≡ length cs
gathered-count cs = omega (arith, count_all no_clauses cs)

pub gathered_long : (cs : List Clause) → length (gathered cs).clauses ≡ 8
gathered_long cs = long_all no_clauses cs

-- up to eight are held

take-set : (l : List Clause) (i : ℕ) (c : Clause) → i < length l → take (suc i) (set l i c) ≡ take i l ++ (c ∷ [])
take-set [] i c h = absurd (omega arith)
take-set (x ∷ l) zero c h = refl
take-set (x ∷ l) (suc i) c h = ap (λ (m : List Clause). x ∷ m) (take-set l i c (omega arith))

picked_first : (z : Bool) (a b : Asked) → z ≡ true → pick_asked z a b ≡ a
picked_first true a b h = refl
picked_first false a b h = absurd (false≢true h)

keep_all : (l : List Clause) (n : ℕ) (cs : List Clause) → length l ≡ 8 → n + length cs ≤ 8 → take (n + length cs) (with_all (record { clauses = l; count = n }) cs).clauses ≡ take n l ++ cs
unfolding with_all
keep_all l n [] long few = ap (λ (i : ℕ). take i l) (add-zero n) ∙ sym (append-nil (take n l))
keep_all l n (c ∷ cs) long few =
    let one : with_clause (record { clauses = l; count = n }) c ≡ record { clauses = set l n c; count = suc n } = picked_first (ltb n 8) _ _ (lt-ltb n 8 (omega arith)) ∙ (λ i. record { clauses = set l n c; count = add-one n i }) in
    let num : n + suc (length cs) ≡ suc n + length cs = omega arith in
    (λ i. take (num i) (with_all (one i) cs).clauses) ∙ keep_all (set l n c) (suc n) cs (length-set l n c ∙ long) (omega arith) ∙ ap (λ (m : List Clause). m ++ cs) (take-set l n c (omega (arith, long))) ∙ append_assoc (take n l) (c ∷ []) cs

pub gathered_are : (cs : List Clause) → length cs ≤ 8 → take (gathered cs).count (gathered cs).clauses ≡ cs
gathered_are cs few = ap (λ (i : ℕ). take i (gathered cs).clauses) (count_all no_clauses cs) ∙ keep_all no_clauses.clauses 0 cs refl (omega arith)
