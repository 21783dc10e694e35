use mathlib.Core.Path.{◌∙◌, sym}
use Prim.Native.Nat.{◌+◌}
use Rattle.oneorder.specs.OneOrder.{has_item}
use Rattle.orders.specs.Rows.{order_of}
use Rattle.orders.proofs.Joins.{join_taken, join_left}
use Rattle.machine.specs.Shown.{shown_entry}
use Rattle.issuing.specs.Issued.{after}
use Rattle.issuing.proofs.join_order.Goals as goal

pub returns-then-has_item : goal.returns-then-has_item
returns-then-has_item c =
    let a = c.args in
    record {
      size = c.join.ensures.size;
      joins = λ k s h.
          c.join.ensures.joins (after a.p (shown_entry k a.e) s) (c.earlier-items.ensures k s (shown_entry k a.e) h (c.initial_writes.ensures k))
          ∙ join_taken (has_item (shown_entry k a.e)) (order_of a.rows.now) (8 + a.issued) (8 + a.issued) (after a.p (shown_entry k a.e) s) (sym (c.has_item.ensures k) ∙ c.if-has_item.true);
    }

pub returns-else-has_item : goal.returns-else-has_item
returns-else-has_item c =
    let a = c.args in
    record {
      size = c.requires.rows_long;
      joins = λ k s h. join_left (has_item (shown_entry k a.e)) (order_of a.rows.now) (8 + a.issued) (8 + a.issued) (after a.p (shown_entry k a.e) s) (sym (c.has_item.ensures k) ∙ c.if-has_item.false);
    }
