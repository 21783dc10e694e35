use mathlib.Core.Path.{◌∙◌}
use Prim.Native.Nat.{◌+◌}
use lib.Dec.{eqb}
use borrow.Author.Tests.{eq-eqb, ne_eqb}
use Rattle.orders.specs.Rows.{order_of}
use Rattle.orders.proofs.Joins.{join_taken, join_left}
use Rattle.committing.specs.Committed.{releases}
use Rattle.committing.proofs.order_acquire.Goals as goal

pub returns-then-kind-eq6 : goal.returns-then-kind-eq6
returns-then-kind-eq6 c =
    let a = c.args in
    record {
      size = c.join.ensures.size;
      joins = λ k s h.
          c.join.ensures.joins (releases s a.x) (c.released-items.ensures k s h)
          ∙ join_taken (eqb a.kind 6) (order_of a.rows.now) a.item (8 + a.issued) (releases s a.x) (eq-eqb a.kind 6 c.if-kind-eq6.true);
    }

pub returns-else-kind-eq6 : goal.returns-else-kind-eq6
returns-else-kind-eq6 c =
    let a = c.args in
    record {
      size = c.requires.rows_long;
      joins = λ k s h. join_left (eqb a.kind 6) (order_of a.rows.now) a.item (8 + a.issued) (releases s a.x) (ne_eqb a.kind 6 c.if-kind-eq6.false);
    }
