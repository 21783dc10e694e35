-- Clauses held by value, and which of them are bad. Assumes nothing.
use mathlib.Core.Path.{◌≡◌, refl, sym, ◌∙◌, ap}
use mathlib.Core.Bool.{Bool, true, false, ◌||◌, false≢true}
use mathlib.Core.List.{List, [], ◌∷◌, ◌++◌, append-nil}
use Prim.Native.Nat.{ℕ, zero, suc, ◌-◌, ◌≤◌, ◌<◌}
use native.Mathlib.Omega.{arith}
use native.Mathlib.Decide.{dec_lt}
use lib.Dec.{ltb, leb}
use lib.ListN.{length, get_or, take, replicate, length-append, length-replicate}
use borrow.Author.Tests.{lt-ltb, le-ltb, ltb-false, leb-false}
use Rattle.words.specs.Small.{any}
use Rattle.words.proofs.Bools.{or_none, or_left}
use Rattle.clauses.specs.declared.Clause.{Clause}
use Rattle.clauses.specs.declared.Asked.{Asked}
use Rattle.clauses.specs.Wanted.{AllNamed, Askable, clauses_of, no_clause}
use Rattle.asking.specs.Asked.{bad_clause, bad_clauses}

-- up to eight are held
pub held_clauses : (a : Asked) → a.count ≤ 8 → take a.count a.clauses ≡ clauses_of a
held_clauses a few = let e : 0 ≡ a.count - 8 = omega arith in sym (append-nil (take a.count a.clauses)) ∙ ap (λ (k : ℕ). take a.count a.clauses ++ replicate k no_clause) e

take-length : (n : ℕ) (l : List Clause) → n ≤ length l → length (take n l) ≡ n
take-length zero l h = refl
take-length (suc n) [] h = absurd (omega arith)
take-length (suc n) (k ∷ l) h = ap suc (take-length n l (omega arith))

take_past : (n : ℕ) (l : List Clause) → length l ≤ n → length (take n l) ≡ length l
take_past zero [] h = refl
take_past zero (k ∷ l) h = absurd (omega arith)
take_past (suc n) [] h = refl
take_past (suc n) (k ∷ l) h = ap suc (take_past n l (omega arith))

-- over eight are bad
pub bad_many : (procs : ℕ) (a : Asked) → length a.clauses ≡ 8 → 8 < a.count → true ≡ bad_clauses procs (clauses_of a)
unfolding bad_clauses
bad_many procs a long l =
    let h : 8 < length (clauses_of a) = omega (arith, long, l, take_past a.count a.clauses (omega (arith, long, l)), length-append (take a.count a.clauses) (replicate (a.count - 8) no_clause), length-replicate {A = Clause} (a.count - 8) no_clause) in
    sym (or_left (ltb 8 (length (clauses_of a))) _ (lt-ltb 8 (length (clauses_of a)) h))

-- up to eight are bad if one of them is
pub bad_some : (procs : ℕ) (a : Asked) (found : Bool) → length a.clauses ≡ 8 → a.count ≤ 8 → found ≡ any (bad_clause procs) (take a.count a.clauses) → found ≡ bad_clauses procs (clauses_of a)
unfolding bad_clauses
bad_some procs a found long few e =
    e ∙ ap (λ (b : Bool). b || any (bad_clause procs) (take a.count a.clauses)) (sym (le-ltb 8 (length (take a.count a.clauses)) (omega (arith, few, take-length a.count a.clauses (omega (arith, few, long))))))
    ∙ ap (bad_clauses procs) (held_clauses a few)

-- clauses that are not bad can be asked

all_named : (procs : ℕ) → procs ≤ 4 → (ks : List Clause) → any (bad_clause procs) ks ≡ false → AllNamed ks
all_named procs few [] h = tt
all_named procs few (k ∷ ks) h =
    let w = or_none (bad_clause procs k) (any (bad_clause procs) ks) h in
    let v = or_none (leb procs k.processor) (ltb 7 k.register) w.0 in
    ((omega (arith, leb-false procs k.processor v.0), omega (arith, ltb-false 7 k.register v.1)), all_named procs few ks w.1)

front_named : (l m : List Clause) → AllNamed (l ++ m) → AllNamed l
front_named [] m h = tt
front_named (k ∷ l) m h = (h.0, front_named l m h.1)

pub askable : (procs : ℕ) → procs ≤ 4 → (a : Asked) → length a.clauses ≡ 8 → bad_clauses procs (clauses_of a) ≡ false → Askable a
unfolding bad_clauses
askable procs few a long h =
    let w = or_none (ltb 8 (length (clauses_of a))) (any (bad_clause procs) (clauses_of a)) h in
    let count : a.count ≤ 8 =
    elim (dec_lt 8 a.count) [
      | yes l ↦ absurd (false≢true (sym h ∙ sym (bad_many procs a long l)))
      | no l ↦ omega arith
    ] in
    (count, front_named (take a.count a.clauses) (replicate (a.count - 8) no_clause) (all_named procs few (clauses_of a) w.1))

-- the loop over the clauses
pub any_more : {A : Type 0} (f : A → Bool) (l : List A) (i : ℕ) (d : A) → i < length l → (f (get_or l i d) || any f (take i l)) ≡ any f (take (suc i) l)
any_more f [] i d h = absurd (omega arith)
any_more f (x ∷ l) zero d h = refl
any_more f (x ∷ l) (suc i) d h = swap (f (get_or l i d)) (f x) (any f (take i l)) ∙ ap (λ (b : Bool). f x || b) (any_more f l i d (omega arith))
  where
    swap : (a b e : Bool) → (a || (b || e)) ≡ (b || (a || e))
    swap true true e = refl
    swap true false e = refl
    swap false true e = refl
    swap false false e = refl

pub any_at : {A : Type 0} (f : A → Bool) (l : List A) (i : ℕ) (d : A) → i < length l → f (get_or l i d) ≡ true → any f l ≡ true
any_at f [] i d h e = absurd (omega arith)
any_at f (x ∷ l) zero d h e = or_left (f x) (any f l) e
any_at f (x ∷ l) (suc i) d h e = ap (λ (b : Bool). f x || b) (any_at f l i d (omega arith) e) ∙ or_true (f x)
  where
    or_true : (b : Bool) → (b || true) ≡ true
    or_true true = refl
    or_true false = refl

pub any_all : {A : Type 0} (f : A → Bool) (l : List A) (i : ℕ) → length l ≤ i → any f (take i l) ≡ any f l
any_all f [] zero h = refl
any_all f [] (suc i) h = refl
any_all f (x ∷ l) zero h = absurd (omega arith)
any_all f (x ∷ l) (suc i) h = ap (λ (b : Bool). f x || b) (any_all f l i (omega arith))
