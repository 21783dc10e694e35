use mathlib.Core.Path.{◌≡◌, ap}
use Prim.Native.Nat.{ℕ}
use native.Mathlib.Omega.{arith}
use lib.ListN.{length}
use Rattle.words.specs.Small.{counting, concat_map}
use Rattle.lines.proofs.Behind.{laid_as}
use Rattle.lines.proofs.Rows.{rows_none, rows_more, counted_more}
use Rattle.writing.specs.Laying.{preset_text}
use Rattle.writing.proofs.writer.add_presets.Goals as goal

pub loop-n-init : goal.loop-n-init
loop-n-init c = rows_none 40 _ _

pub loop-n-preserved : goal.loop-n-preserved
loop-n-preserved c =
    let one = c.add_preset-to.ensures in
    rows_more c.loop-n.invariant one.laid one.short (counted_more (preset_text c.args.masks.now c.args.presets.now) c.loop-n.n)

pub returns : goal.returns
returns c =
    let q : c.loop-n.n ≡ 32 = omega arith in
    let e = ap (λ (n : ℕ). concat_map (preset_text c.args.masks.now c.args.presets.now) (counting 0 n)) q in
    record { laid = laid_as e c.loop-n.invariant.laid; short = omega (arith, ap length e, c.loop-n.invariant.short) }
