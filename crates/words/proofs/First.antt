use mathlib.Core.Path.{◌≡◌, refl}
use mathlib.Core.Bool.{Bool, true, false, ◌&&◌, not}
use mathlib.Core.List.{List, [], ◌∷◌}
use Prim.Native.Nat.{ℕ, suc}
use native.Mathlib.Omega.{arith}
use borrow.Author.Tests.{eq-eqb, ne_eqb, le-leb, lt-leb, lt-ltb, le-ltb}
use Rattle.words.specs.Refusals.{Refusal, ◌when◌, first_code_of}

-- why n is the first code of a list
pub data First : List Refusal → ℕ → Type 0 where
  hit : {k : ℕ} {b : Bool} {rest : List Refusal} → b ≡ true → First (k when b ∷ rest) k
  miss : {k n : ℕ} {b : Bool} {rest : List Refusal} → b ≡ false → First rest n → First (k when b ∷ rest) n
  none : First [] 0

pub first : (l : List Refusal) {n : ℕ} → First l n → n ≡ first_code_of l
unfolding first_code_of
first l (hit h) = rw h
first l (miss {rest = r} h f) = rw h (first r f)
first l none = refl

pub and_yes : (a b : Bool) → a ≡ true → b ≡ true → (a && b) ≡ true
and_yes a b h k = rw (h, k)

pub and_no_left : (a b : Bool) → a ≡ false → (a && b) ≡ false
and_no_left a b h = rw h

pub and_no_right : (a b : Bool) → b ≡ false → (a && b) ≡ false
and_no_right true b h = h
and_no_right false b h = refl

pub not_yes : (a : Bool) → a ≡ false → not a ≡ true
not_yes a h = rw h

pub not_no : (a : Bool) → a ≡ true → not a ≡ false
not_no a h = rw h

pub ruleset codes = (hit, miss, none, eq-eqb, ne_eqb, le-leb, lt-leb, lt-ltb, le-ltb, and_yes, and_no_left, and_no_right, not_yes, not_no)

-- a list with no code that applies
pub first_none : (k : ℕ) (b : Bool) (rest : List Refusal) → first_code_of (suc k when b ∷ rest) ≡ 0 → (b ≡ false) × (first_code_of rest ≡ 0)
unfolding first_code_of
first_none k true rest h = absurd (omega arith)
first_none k false rest h = (refl, h)
