-- The sizes of a sound case: 1 to 4 processors, 1 to 8 locations. Assumes nothing.
use mathlib.Core.Path.{◌≡◌, refl}
use mathlib.Core.Bool.{Bool, false, ◌||◌}
use Prim.Native.Nat.{ℕ, ◌≤◌, ◌<◌}
use native.Mathlib.Omega.{arith}
use lib.Dec.{eqb, ltb}
use borrow.Author.Tests.{eqb-false, ltb-false}
use Rattle.words.proofs.Bools.{or_none, none_below}
use Rattle.words.proofs.Passed.{passed}
use Rattle.cases.specs.declared.Case.{Case}
use Rattle.cases.specs.Block.{bad3, faults, contents, Sound}

-- a size that is neither 0 nor over the most
within_size : (n most : ℕ) → (eqb n 0 || ltb most n) ≡ false → (1 ≤ n) × (n ≤ most)
within_size n most h =
    let w = or_none (eqb n 0) (ltb most n) h in
    let z = eqb-false n 0 w.0 in
    (omega (arith, z), ltb-false most n w.1)

-- the first two of four tests
two_fail : (a b d e : Bool) → (a || b || d || e) ≡ false → (a ≡ false) × (b ≡ false)
two_fail a b d e h = or_none a b (or_none (a || b) d (or_none (a || b || d) e h).0).0

module _ (c : Case) (h : Sound c) where
  fine : (i : ℕ) → i < 510 → bad3 (contents c) i ≡ false
  fine = none_below 510 (bad3 (contents c)) (passed (faults (contents c)) refl h).0

  pub sound_procs : (1 ≤ c.procs) × (c.procs ≤ 4)
  unfolding bad3 contents
  sound_procs = within_size c.procs 4 (two_fail (eqb c.procs 0 || ltb 4 c.procs) false false false (fine 0 (omega arith))).0

  pub sound_locs : (1 ≤ c.locs) × (c.locs ≤ 8)
  unfolding bad3 contents
  sound_locs = within_size c.locs 8 (two_fail false (eqb c.locs 0 || ltb 8 c.locs) false false (fine 1 (omega arith))).1
