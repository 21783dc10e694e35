use Rattle.openings.proofs.Queued.{first_none, first_some}
use native.Mathlib.Omega.{arith}
use Rattle.openings.proofs.first_of.Goals as goal

pub overflow_add-r : goal.overflow_add-r
overflow_add-r c = omega (arith, c.lowest.ensures.upto, c.requires.from, c.requires.upto)

pub returns-then-end-r : goal.returns-then-end-r
returns-then-end-r c =
    let u = c.lowest in
    first_none c.args.word c.args.k c.args.end u.result c.requires.from c.requires.upto u.ensures c.if-end-r.true

pub returns-else-end-r : goal.returns-else-end-r
returns-else-end-r c =
    let u = c.lowest in
    first_some c.args.word c.args.k c.args.end u.result c.requires.from c.requires.upto u.ensures (omega (arith, c.if-end-r.false))
