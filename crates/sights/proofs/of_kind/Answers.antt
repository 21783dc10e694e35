use Rattle.sights.proofs.Holds.{kind_at}
use Rattle.sights.proofs.of_kind.Goals as goal

pub returns : goal.returns
returns c =
    let a = c.args in
    λ x s k j l. kind_at x s a.sets.now k a.q j c.requires l
