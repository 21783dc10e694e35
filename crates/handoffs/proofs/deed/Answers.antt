use Rattle.handoffs.proofs.Parts.{any_default, past_default}
use Rattle.handoffs.proofs.deed.Goals as goal

pub returns-then-i-plan : goal.returns-then-i-plan
returns-then-i-plan c = let a = c.args in any_default a.plan.now a.i 0 6 c.if-i-plan.true

pub returns-else-i-plan : goal.returns-else-i-plan
returns-else-i-plan c = let a = c.args in past_default a.plan.now a.i 6 c.if-i-plan.false
