use mathlib.Core.Path.{◌≡◌, ap}
use mathlib.Core.List.{[], ◌∷◌, ◌++◌}
use Prim.Native.Nat.{ℕ}
use native.Mathlib.Omega.{arith}
use lib.ListN.{length, length-append}
use Rattle.words.specs.Small.{counting, concat_map}
use Rattle.lines.specs.Outcome.{processor, outcome_line}
use Rattle.lines.proofs.Behind.{laid_then, laid_as}
use Rattle.lines.proofs.Rows.{rows_none, rows_more, counted_more}
use Rattle.lines.proofs.outcome.outcome_line.Goals as goal

pub loop-p-init : goal.loop-p-init
loop-p-init c = rows_none 53 _ _

pub loop-p-preserved : goal.loop-p-preserved
loop-p-preserved c =
    let args = c.args in
    let more = c.processor-end.ensures in
    rows_more c.loop-p.invariant more.laid more.short (counted_more (processor args.outcome.now) c.loop-p.p)

pub returns : goal.returns
unfolding outcome_line
returns c =
    let args = c.args in
    let outcome = args.outcome.now in
    let all : c.loop-p.p ≡ args.procs = omega arith in
    let said = ap (λ (n : ℕ). concat_map (processor outcome) (counting 0 n) ++ (10 ∷ [])) all in record {
      laid = laid_as said (laid_then c.loop-p.invariant.laid c.put.ensures);
      short = omega (arith, ap length said, c.loop-p.invariant.short, length-append (concat_map (processor outcome) (counting 0 c.loop-p.p)) (10 ∷ []));
    }
