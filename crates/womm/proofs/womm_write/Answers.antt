use mathlib.Core.Path.{ap}
use Rattle.cases.specs.declared.Fault.{Fault}
use Rattle.womm.proofs.womm_write.Goals as goal

pub returns : goal.returns
returns c =
    let seal = c.seal-fault.ensures in
    record { code = ap (λ (f : Fault). f.code) seal.0; position = ap (λ (f : Fault). f.position) seal.0; bytes = seal.1 }
