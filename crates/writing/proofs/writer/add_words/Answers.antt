use mathlib.Core.Path.{◌≡◌, ap}
use Prim.Native.Nat.{ℕ}
use native.Mathlib.Omega.{arith}
use lib.ListN.{length}
use Rattle.words.specs.Small.{counting, concat_map}
use Rattle.lines.proofs.Behind.{laid_as}
use Rattle.lines.proofs.Rows.{rows_none, rows_more, counted_more}
use Rattle.writing.specs.Laying.{word_text}
use Rattle.writing.proofs.writer.add_words.Goals as goal

pub loop-l-init : goal.loop-l-init
loop-l-init c = rows_none 40 _ _

pub loop-l-preserved : goal.loop-l-preserved
loop-l-preserved c =
    let one = c.add_word-to.ensures in
    rows_more c.loop-l.invariant one.laid one.short (counted_more (word_text c.args.memory.now) c.loop-l.l)

pub returns : goal.returns
returns c =
    let q : c.loop-l.l ≡ 8 = omega arith in
    let e = ap (λ (n : ℕ). concat_map (word_text c.args.memory.now) (counting 0 n)) q in
    record { laid = laid_as e c.loop-l.invariant.laid; short = omega (arith, ap length e, c.loop-l.invariant.short) }
