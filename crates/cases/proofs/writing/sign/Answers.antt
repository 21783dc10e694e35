use mathlib.Core.Path.{ap, ◌∙◌}
use native.Mathlib.Omega.{arith}
use lib.ListN.{length, length-set}
use Rattle.cases.specs.Block.{unbounded}
use Rattle.cases.proofs.Puts.{two_bytes, signed}
use Rattle.cases.proofs.writing.sign.Goals as goal

pub put-requires : goal.put-requires
put-requires c =
    omega (arith, ap length c.to_le_bytes.ensures, length-set c.args.block.now 2 0, c.requires)

pub shape_of-block : goal.shape_of-block
shape_of-block c =
    c.put.ensures.long ∙ length-set c.args.block.now 2 0

pub returns : goal.returns
returns c =
    signed (unbounded c.args.block.now) c.put.new.block c.to_le_bytes.result c.check-sum.result (length-set c.args.block.now 2 0 ∙ c.requires) c.check-sum.ensures.is (c.to_le_bytes.ensures ∙ two_bytes c.check-sum.result (omega (arith, c.check-sum.ensures.low))) c.put.ensures
