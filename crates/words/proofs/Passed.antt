-- A list of refusals of which none applies, test by test. Assumes nothing.
use mathlib.Core.Path.{◌≡◌, refl, sym}
use mathlib.Core.Bool.{Bool, true, false, ◌&&◌, false≢true}
use mathlib.Core.List.{List, [], ◌∷◌, ◌++◌}
use Prim.Native.Nat.{ℕ, suc, ◌<◌}
use native.Mathlib.Omega.{arith}
use lib.Dec.{ltb}
use borrow.Author.Tests.{ltb-true}
use Rattle.words.specs.Refusals.{Refusal, ◌when◌, first_code_of}
use Rattle.words.proofs.Bools.{and_both}

-- no test of the list passes
abbrev pub Passed : List Refusal → Type 0
Passed [] = Unit {0}
Passed (code when test ∷ rest) = (test ≡ false) × Passed rest

-- no code of the list is 0
abbrev pub positive : List Refusal → Bool
positive [] = true
positive (code when test ∷ rest) = ltb 0 code && positive rest

pub passed : (l : List Refusal) → positive l ≡ true → first_code_of l ≡ 0 → Passed l
unfolding first_code_of
passed [] p h = tt
passed (code when true ∷ rest) p h = absurd (omega (arith, ltb-true 0 code (and_both (ltb 0 code) _ p).0))
passed (code when false ∷ rest) p h = (refl, passed rest (and_both (ltb 0 code) _ p).1 h)

pub unpassed : (l : List Refusal) → Passed l → first_code_of l ≡ 0
unfolding first_code_of
unpassed [] p = refl
unpassed (code when true ∷ rest) p = absurd (false≢true (sym p.0))
unpassed (code when false ∷ rest) p = unpassed rest p.1

-- one list behind another: its codes count where none of the first applies

pub first_left : (l m : List Refusal) → 0 < first_code_of l → first_code_of (l ++ m) ≡ first_code_of l
unfolding first_code_of
first_left [] m h = absurd (omega arith)
first_left (code when true ∷ rest) m h = refl
first_left (code when false ∷ rest) m h = first_left rest m h

pub first_right : (l m : List Refusal) → Passed l → first_code_of (l ++ m) ≡ first_code_of m
unfolding first_code_of
first_right [] m p = refl
first_right (code when true ∷ rest) m p = absurd (false≢true (sym p.0))
first_right (code when false ∷ rest) m p = first_right rest m p.1
