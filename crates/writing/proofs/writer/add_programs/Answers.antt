use mathlib.Core.Path.{◌≡◌, ap}
use Prim.Native.Nat.{ℕ}
use native.Mathlib.Omega.{arith}
use lib.ListN.{length}
use Rattle.words.specs.Small.{counting, concat_map}
use Rattle.lines.proofs.Behind.{laid_as}
use Rattle.lines.proofs.Rows.{rows_none, rows_more, counted_more}
use Rattle.writing.specs.Laying.{program_text}
use borrow.Author.Rules.{rules}
use Rattle.writing.proofs.writer.add_programs.Goals as goal

pub loop-p-init : goal.loop-p-init
loop-p-init c = rows_none 480 _ _

pub add_program-to-requires : goal.add_program-to-requires
add_program-to-requires c =
    (search rules, c.requires c.loop-p.p c.loop-p-test.true)

pub loop-p-preserved : goal.loop-p-preserved
loop-p-preserved c =
    let a = c.args in
    let one = c.add_program-to.ensures in
    rows_more c.loop-p.invariant one.laid one.short (counted_more (program_text a.counts.now a.code.now) c.loop-p.p)

pub returns : goal.returns
returns c =
    let a = c.args in
    let q : c.loop-p.p ≡ 4 = omega arith in
    let e = ap (λ (n : ℕ). concat_map (program_text a.counts.now a.code.now) (counting 0 n)) q in
    record { laid = laid_as e c.loop-p.invariant.laid; short = omega (arith, ap length e, c.loop-p.invariant.short) }
