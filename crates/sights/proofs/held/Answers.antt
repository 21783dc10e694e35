use Rattle.sights.proofs.Holds.{held_is}
use Rattle.sights.proofs.held.Goals as goal

pub returns : goal.returns
returns c =
    let a = c.args in
    λ x s k h. held_is x s a.sets.now k a.p a.k a.kind a.loc c.below-queue.result c.holding_items-items.result c.requires.proc c.requires.upto h c.below-queue.ensures (c.holding_items-items.ensures x s k)
