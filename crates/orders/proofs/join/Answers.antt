use Rattle.orders.proofs.Joins.{all_joined}
use Rattle.orders.proofs.join.Goals as goal

pub returns : goal.returns
returns c =
    let a = c.args in
    all_joined a.rows.now c.spread.new.rows a.i c.reach-mask.result a.items a.n c.requires.item c.spread.ensures.0 c.spread.ensures.1 c.reach-mask.ensures
