use Rattle.handoffs.specs.declared.Plan.{Plan}
use native.Mathlib.Omega.{arith}
use mathlib.Core.Path.{ap}
use Rattle.handoffs.proofs.Parts.{case_by}
use Rattle.handoffs.proofs.case_for.Goals as goal

pub overflow_cast-result : goal.overflow_cast-result
overflow_cast-result c = omega (arith, ap (λ (p : Plan). p.count) c.plan_of-s.ensures, c.requires.sender)

pub overflow_cast-result-2 : goal.overflow_cast-result-2
overflow_cast-result-2 c = omega (arith, ap (λ (p : Plan). p.count) c.plan_of-r.ensures, c.requires.receiver)

pub returns : goal.returns
returns c =
    case_by c.args.sending.now c.args.receiving.now c.requires c.plan_of-s.ensures c.plan_of-r.ensures c.presets.ensures c.with_sender.ensures c.with_receiver.ensures
