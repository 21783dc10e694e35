use mathlib.Core.Path.{sym, ◌∙◌}
use borrow.Author.Tests.{le-ltb}
use Rattle.orders.proofs.Joins.{order_at, order_out}
use Rattle.orders.proofs.before.Goals as goal

pub returns-then-b-lt56 : goal.returns-then-b-lt56
returns-then-b-lt56 c = c.has.ensures ∙ sym (order_at c.args.rows.now c.args.a c.args.b c.if-b-lt56.true)

pub returns-else-b-lt56 : goal.returns-else-b-lt56
returns-else-b-lt56 c =
    let a = c.args in
    le-ltb a.b 56 c.if-b-lt56.false ∙ sym (order_out a.rows.now a.a a.b c.if-b-lt56.false)
