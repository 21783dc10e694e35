use mathlib.Core.Path.{ap, ◌∙◌}
use mathlib.Core.Bool.{Bool, ◌&&◌}
use lib.Dec.{eqb}
use Rattle.cases.specs.Instruction.{is_assigned}
use Rattle.cases.proofs.Fields.{assigned_field}
use Rattle.cases.proofs.Registers.{assigns_is}
use Rattle.cases.proofs.faults.assigns_at.Goals as goal

pub returns : goal.returns
returns c =
    let a = c.args in
    ap (λ (b : Bool). b && c.eq.result && eqb c.number-2.result a.r) c.used.ensures
    ∙ assigns_is a.block.now a.p a.n a.r c.number.result c.number-2.result c.eq.result (c.eq.ensures ∙ assigned_field c.field.result ∙ ap is_assigned c.field.ensures) c.number.ensures.is c.number-2.ensures.is
