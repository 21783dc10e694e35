-- The clauses of a list, one after the other.
--     (no_clause, of the specs, is what stands past the end of a list)
--     none_yet, one_more, all_of       the first 0 clauses, one more, and all
--     fails_at                         a list with a clause that does not hold
--     named        each clause of a list whose clauses all name what there is does
use mathlib.Core.Path.{◌≡◌, refl, sym, ap, ◌∙◌}
use Prim.Native.Nat.{ℕ, zero, suc, ◌+◌, ◌<◌}
use native.Mathlib.Nat.{not-suc-le-zero, le_of_suc-le-suc}
use native.Mathlib.Numerals.{add-one}
use mathlib.Core.Bool.{Bool, true, false, ◌&&◌}
use mathlib.Core.List.{List, [], ◌∷◌}
use lib.ListN.{length, get_or, take}
use Rattle.clauses.specs.declared.Clause.{Clause}
use Rattle.clauses.specs.Wanted.{Named, AllNamed, holds_in, meets_all, no_clause}

pub named : (cs : List Clause) (i : ℕ) → AllNamed cs → i < length cs → Named (get_or cs i no_clause)
named [] i h l = absurd (not-suc-le-zero l)
named (c ∷ cs) zero h l = h.0
named (c ∷ cs) (suc i) h l = named cs i h.1 (le_of_suc-le-suc l)

pub none_yet : (cs : List Clause) (o : List ℕ) → true ≡ meets_all (take 0 cs) o
unfolding meets_all
none_yet cs o = refl

and_true : (a : Bool) → (a && true) ≡ a
and_true true = refl
and_true false = refl

and_false : (a : Bool) → (a && false) ≡ false
and_false true = refl
and_false false = refl

and_assoc : (a b c : Bool) → ((a && b) && c) ≡ (a && (b && c))
and_assoc true b c = refl
and_assoc false b c = refl

next : (cs : List Clause) (o : List ℕ) (i : ℕ) → i < length cs → (meets_all (take i cs) o && holds_in (get_or cs i no_clause) o) ≡ meets_all (take (suc i) cs) o
unfolding meets_all
next [] o i l = absurd (not-suc-le-zero l)
next (c ∷ cs) o zero l = sym (and_true (holds_in c o))
next (c ∷ cs) o (suc i) l = and_assoc (holds_in c o) (meets_all (take i cs) o) (holds_in (get_or cs i no_clause) o) ∙ ap (λ (z : Bool). holds_in c o && z) (next cs o i (le_of_suc-le-suc l))

pub one_more : (cs : List Clause) (o : List ℕ) (i : ℕ) → i < length cs → (meets_all (take i cs) o && holds_in (get_or cs i no_clause) o) ≡ meets_all (take (i + 1) cs) o
one_more cs o i l = next cs o i l ∙ ap (λ (k : ℕ). meets_all (take k cs) o) (sym (add-one i))

-- one that does not hold
pub fails_at : (cs : List Clause) (o : List ℕ) (i : ℕ) → i < length cs → holds_in (get_or cs i no_clause) o ≡ false → false ≡ meets_all cs o
unfolding meets_all
fails_at [] o i l h = absurd (not-suc-le-zero l)
fails_at (c ∷ cs) o zero l h = sym (ap (λ (z : Bool). z && meets_all cs o) h)
fails_at (c ∷ cs) o (suc i) l h = sym (and_false (holds_in c o)) ∙ ap (λ (z : Bool). holds_in c o && z) (fails_at cs o i (le_of_suc-le-suc l) h)

take_all : (cs : List Clause) → take (length cs) cs ≡ cs
take_all [] = refl
take_all (c ∷ cs) = ap (λ (xs : List Clause). c ∷ xs) (take_all cs)

pub all_of : (cs : List Clause) (o : List ℕ) → meets_all (take (length cs) cs) o ≡ meets_all cs o
all_of cs o = ap (λ (xs : List Clause). meets_all xs o) (take_all cs)
