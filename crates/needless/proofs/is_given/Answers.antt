use Rattle.needless.proofs.Ignoring.{given_name}
use Rattle.needless.proofs.is_given.Goals as goal

pub returns : goal.returns
returns c = let a = c.args in λ k. given_name k a.name a.k
