use mathlib.Core.Path.{◌≡◌}
use lib.ListN.{length}
use borrow.Author.Rules.{rules}
use Rattle.cases.proofs.Puts.{headed}
use Rattle.cases.proofs.writing.put_head.Goals as goal

-- Three parts put one behind the other are the front of the contents (`headed`).
pub returns : goal.returns
returns c =
    let case = c.args.case.now in
    let counts : length case.counts ≡ 4 = search rules in
    let masks : length case.masks ≡ 4 = search rules in
    headed case counts masks c.args.block.now c.put.new.block c.put-2.new.block c.put-3.new.block c.put.ensures c.put-2.ensures c.put-3.ensures
