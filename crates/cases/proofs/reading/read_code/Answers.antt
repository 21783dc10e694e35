use mathlib.Core.Path.{ap}
use native.Mathlib.Omega.{arith}
use lib.ListN.{length, length-set}
use borrow.Author.Count.{below_none}
use Rattle.words.proofs.Lists.{filled_more, each_is}
use Rattle.cases.specs.Block.{slot_at}
use Rattle.cases.specs.declared.Instr.TheVariants.{Empty}
use Rattle.cases.proofs.reading.read_code.Goals as goal

pub loop-n-init : goal.loop-n-init
loop-n-init c = (ap length c.no_code-code.ensures, below_none _)

pub loop-n-preserved : goal.loop-n-preserved
loop-n-preserved c =
    let s = c.args.block.now in
    let code = c.loop-n.code in
    (simp length-set c.loop-n.invariant.0, filled_more (slot_at s) (record { instr = Empty }) code c.loop-n.n c.slot.result (omega arith) c.slot.ensures c.loop-n.invariant.1)

pub returns : goal.returns
returns c =
    each_is (slot_at c.args.block.now) (record { instr = Empty }) c.loop-n.code 48 c.loop-n.invariant.0 (λ k h. c.loop-n.invariant.1 k (omega arith))
