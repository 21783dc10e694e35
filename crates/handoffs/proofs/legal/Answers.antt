use Rattle.handoffs.proofs.Parts.{legal_by}
use Rattle.handoffs.proofs.legal.Goals as goal

pub returns : goal.returns
returns c =
    let a = c.args in
    legal_by a.sending.now a.receiving.now c.plan_of-s.ensures c.plan_of-r.ensures c.four_at.ensures c.four_at-2.ensures c.readies.ensures c.touches.ensures
