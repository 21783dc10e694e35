-- A sound case has at most 8 locations. Assumes nothing.
use mathlib.Core.Path.{◌≡◌}
use mathlib.Core.Bool.{false, ◌||◌}
use Prim.Native.Nat.{◌≤◌}
use native.Mathlib.Omega.{arith}
use lib.Dec.{eqb, ltb}
use borrow.Author.Tests.{ltb-false}
use Rattle.words.specs.Small.{some_below}
use Rattle.words.proofs.Bools.{or_none, fails, below_make}
use Rattle.words.proofs.First.{first_none}
use Rattle.cases.specs.declared.Case.{Case}
use Rattle.cases.specs.Block.{bad3, contents, Sound}

pub sound_locs : (c : Case) → Sound c → c.locs ≤ 8
unfolding bad3 contents
sound_locs c sound =
    let all = (first_none 2 (some_below 510 (bad3 (contents c))) _ sound).0 in
    let size = eqb c.locs 0 || ltb 8 c.locs in
    let fine : ((size || false) || false) ≡ false = fails (some_below 510 (bad3 (contents c))) (bad3 (contents c) 1) (below_make 510 (bad3 (contents c)) 1 (omega arith)) all in
    ltb-false 8 c.locs (or_none (eqb c.locs 0) (ltb 8 c.locs) (or_none size false (or_none (size || false) false fine).0).0).1
