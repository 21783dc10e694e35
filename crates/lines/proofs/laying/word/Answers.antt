use mathlib.Core.Path.{◌≡◌, sym}
use mathlib.Core.List.{[], ◌∷◌, ◌++◌}
use Prim.Native.Nat.{◌+◌}
use native.Mathlib.Omega.{arith}
use native.Mathlib.Numerals.{add-one}
use lib.ListN.{take, get_or}
use lib.Seq.{take-suc}
use Rattle.lines.proofs.Behind.{laid_then, laid_none, laid_as}
use Rattle.lines.proofs.laying.word.Goals as goal

pub loop-b-init : goal.loop-b-init
loop-b-init c = laid_none _ _

pub loop-b-preserved : goal.loop-b-preserved
loop-b-preserved c =
    let bytes = c.args.bytes.now in
    let i = c.loop-b.b-index in
    let more : take (i + 1) bytes ≡ take i bytes ++ (get_or bytes i 0 ∷ []) = rw (add-one, take-suc bytes i 0 (omega arith)) in
    laid_as (sym more) (laid_then c.loop-b.invariant c.put-end.ensures)
