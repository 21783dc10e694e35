-- The position of a refused block is bad for its code, and no lower one is. Assumes nothing.
use mathlib.Core.Path.{◌≡◌, refl, sym, ◌∙◌, subst}
use mathlib.Core.Bool.{Bool, true, false, false≢true}
use mathlib.Core.List.{List, [], ◌∷◌}
use Prim.Native.Nat.{ℕ, ◌<◌, ◌≤◌}
use native.Mathlib.Omega.{arith}
use native.Mathlib.Decide.{dec_lt}
use lib.Dec.{ltb}
use borrow.Author.Tests.{le-ltb}
use Rattle.words.specs.Small.{some_below}
use Rattle.words.specs.Refusals.{◌when◌, first_code_of}
use Rattle.words.proofs.Bools.{cond-false}
use Rattle.cases.specs.Block.{lowest, bad3, bad4, bad5, bad6, bad7, bad19, faults, bad, position_of}
use Rattle.cases.proofs.Lowest.{lowest_hit, lowest-none, none_bad}

-- the position is bad for the code, and no lower one is
pub record Lowest (s : List ℕ) (code position : ℕ) : Type 0 where
  pub inside : position < 510
  pub hit : bad s code position ≡ true
  pub below : (i : ℕ) → i < position → bad s code i ≡ false

module _ (s : List ℕ) where
  -- the first code that applies has a bad position
  some : (b3 b4 b5 b6 b7 b19 : Bool) → some_below 510 (bad3 s) ≡ b3 → some_below 510 (bad4 s) ≡ b4 → some_below 510 (bad5 s) ≡ b5 → some_below 510 (bad6 s) ≡ b6 → some_below 510 (bad7 s) ≡ b7 → some_below 510 (bad19 s) ≡ b19 → let n = first_code_of (3 when b3 ∷ 4 when b4 ∷ 5 when b5 ∷ 6 when b6 ∷ 7 when b7 ∷ 19 when b19 ∷ []) in 0 < n → (3 ≤ n) × (some_below 510 (bad s n) ≡ true)
  unfolding bad first_code_of
  some true b4 b5 b6 b7 b19 e3 e4 e5 e6 e7 e19 z = (omega arith, e3)
  some false true b5 b6 b7 b19 e3 e4 e5 e6 e7 e19 z = (omega arith, e4)
  some false false true b6 b7 b19 e3 e4 e5 e6 e7 e19 z = (omega arith, e5)
  some false false false true b7 b19 e3 e4 e5 e6 e7 e19 z = (omega arith, e6)
  some false false false false true b19 e3 e4 e5 e6 e7 e19 z = (omega arith, e7)
  some false false false false false true e3 e4 e5 e6 e7 e19 z = (omega arith, e19)
  some false false false false false false e3 e4 e5 e6 e7 e19 z = absurd (omega arith)

  lowest_of_lem : (n : ℕ) → 3 ≤ n → some_below 510 (bad s n) ≡ true → Lowest s n (position_of s n)
  unfolding position_of
  lowest_of_lem n l h =
      let at = lowest 510 (bad s n) in
      let inside : at < 510 = elim (dec_lt at 510) [ yes b ↦ b | no g ↦ absurd (false≢true (sym (none_bad 510 (bad s n) (omega arith)) ∙ h)) ] in
      subst (Lowest s n) (sym (cond-false (ltb n 3) 0 at (le-ltb n 3 l))) (record { inside = inside; hit = lowest_hit 510 (bad s n) inside; below = lowest-none 510 (bad s n) })

  -- Of the first of codes 3 to 7 and 19 that applies, the position is the lowest that is bad for it.
  pub position_lowest : 0 < first_code_of (faults s) → Lowest s (first_code_of (faults s)) (position_of s (first_code_of (faults s)))
  position_lowest h = let r = some _ _ _ _ _ _ refl refl refl refl refl refl h in lowest_of_lem (first_code_of (faults s)) r.0 r.1
