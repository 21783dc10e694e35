use Rattle.needless.proofs.Ignoring.{awaits_is}
use Rattle.needless.proofs.awaits.Goals as goal

pub returns : goal.returns
returns c =
    let a = c.args in
    λ k. awaits_is k a.e a.k c.arity-n.result c.is_given.result c.is_given-2.result c.arity-n.ensures (c.is_given.ensures k) (c.is_given-2.ensures k)
