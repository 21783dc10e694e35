use Rattle.sights.proofs.Holds.{row_items}
use Rattle.sights.proofs.holding_items.Goals as goal

pub returns : goal.returns
returns c =
    let same = c.of_kinds-same in
    let all = c.of_kinds-all in
    let row = c.hold_row-row in
    let a = c.args in
    λ x s k j l.
    row_items x s a.sets.now k a.kind a.loc row.result all.result same.result j c.requires.loc_low l row.ensures (all.ensures x s k j l) (same.ensures x s k j l)
