use Rattle.sights.proofs.Seeing.{sees_is}
use Rattle.sights.proofs.visible_items.Goals as goal

pub returns : goal.returns
returns c =
    let m = c.minus-left in
    let g = c.covered-gone in
    let n = c.row_at-near in
    let a = c.args in
    λ x s v. sees_is x s a.m.now.sets a.m.now.rows a.l a.i c.requires v n.result g.result m.result c.not_after.result n.ensures g.ensures m.ensures c.not_after.ensures
