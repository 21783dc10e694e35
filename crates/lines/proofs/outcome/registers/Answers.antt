use mathlib.Core.Path.{◌≡◌, ap}
use Prim.Native.Nat.{ℕ}
use native.Mathlib.Omega.{arith}
use lib.ListN.{length}
use Rattle.words.specs.Small.{counting, concat_map}
use Rattle.lines.specs.Outcome.{register_at, registers}
use Rattle.lines.proofs.Behind.{laid_as}
use Rattle.lines.proofs.Rows.{rows_none, rows_more, counted_more}
use Rattle.lines.proofs.outcome.registers.Goals as goal

pub loop-k-init : goal.loop-k-init
loop-k-init c = rows_none 6 _ _

pub loop-k-preserved : goal.loop-k-preserved
loop-k-preserved c =
    let args = c.args in
    let more = c.register_at-end.ensures in
    rows_more c.loop-k.invariant more.laid more.short (counted_more (register_at args.outcome.now args.p) c.loop-k.k)

pub returns : goal.returns
unfolding registers
returns c =
    let args = c.args in
    let all : c.loop-k.k ≡ 8 = omega arith in
    let said = ap (λ (n : ℕ). concat_map (register_at args.outcome.now args.p) (counting 0 n)) all in
    record {
      laid = laid_as said c.loop-k.invariant.laid;
      short = omega (arith, ap length said, c.loop-k.invariant.short);
    }
