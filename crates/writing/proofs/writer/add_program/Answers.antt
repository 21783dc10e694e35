use mathlib.Core.Path.{◌≡◌, ap}
use Prim.Native.Nat.{ℕ}
use native.Mathlib.Omega.{arith}
use lib.ListN.{length}
use Rattle.words.specs.Small.{counting, concat_map}
use Rattle.lines.proofs.Behind.{laid_as}
use Rattle.lines.proofs.Rows.{rows_none, rows_more, counted_more}
use Rattle.writing.specs.Laying.{op_text}
use Rattle.writing.proofs.writer.add_program.Goals as goal

pub loop-i-init : goal.loop-i-init
loop-i-init c = rows_none 40 _ _

pub loop-i-preserved : goal.loop-i-preserved
loop-i-preserved c =
    let a = c.args in
    let one = c.add-to.ensures in
    rows_more c.loop-i.invariant one.laid one.short (counted_more (op_text a.code.now a.p) c.loop-i.i)

pub returns : goal.returns
returns c =
    let a = c.args in
    let q : c.loop-i.i ≡ a.count = omega arith in
    let e = ap (λ (n : ℕ). concat_map (op_text a.code.now a.p) (counting 0 n)) q in
    record { laid = laid_as e c.loop-i.invariant.laid; short = omega (arith, ap length e, c.loop-i.invariant.short, c.requires.1) }
