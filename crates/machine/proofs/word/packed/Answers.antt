use native.Mathlib.Omega.{arith}
use Rattle.machine.proofs.Packing.{packed_back}
use Rattle.machine.proofs.word.packed.Goals as goal

pub returns : goal.returns
returns c =
    let i = c.code_of in
    let d = c.result_code-from_done in
    packed_back c.args.e i.result d.result c.requires (omega (arith, d.ensures.0, d.ensures.1)) i.ensures.0 i.ensures.1 d.ensures.0
