use Rattle.handoffs.specs.Inner.{or_else, stale_at}
use Rattle.handoffs.proofs.Question.consider_two.Goals as goal

pub returns : goal.returns
returns c =
    let a = c.args in
    λ U low. c.consider.ensures (or_else U (stale_at a.self.now.sending a.self.now.ready a.d a.k)) (c.consider-a.ensures U low)
