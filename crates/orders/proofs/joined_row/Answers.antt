use mathlib.Core.Path.{◌≡◌, sym, ap, ◌∙◌}
use mathlib.Core.Bool.{Bool, ◌||◌}
use lib.Dec.{eqb}
use borrow.Author.Tests.{eq-eqb, ne_eqb}
use Rattle.words.specs.Sets.{has}
use Rattle.words.proofs.Bools.{or_left}
use Rattle.orders.proofs.Joins.{joined_yes, joined_no}
use Rattle.orders.proofs.joined_row.Goals.{then-b-i, else-b-i}
use Rattle.orders.proofs.joined_row.Goals as goal

pub returns-then-has : goal.returns-then-has
returns-then-has c =
    let a = c.args in
    let said : c.if-b-i.value ≡ (eqb a.b a.i || has a.row a.i) = elim c.if-b-i.branch [
      | then-b-i w ↦ let e = eq-eqb a.b a.i w.if-b-i.true in w.value-is ∙ e ∙ sym (or_left (eqb a.b a.i) _ e)
      | else-b-i w ↦ w.value-is ∙ w.has.ensures ∙ sym (ap (λ (z : Bool). z || has a.row a.i) (ne_eqb a.b a.i w.if-b-i.false))
    ] in
    sym (joined_yes a.row a.b a.i a.mask (sym said ∙ c.if-has.true))

pub returns-else-has : goal.returns-else-has
returns-else-has c =
    let a = c.args in
    let said : c.if-b-i.value ≡ (eqb a.b a.i || has a.row a.i) = elim c.if-b-i.branch [
      | then-b-i w ↦ let e = eq-eqb a.b a.i w.if-b-i.true in w.value-is ∙ e ∙ sym (or_left (eqb a.b a.i) _ e)
      | else-b-i w ↦ w.value-is ∙ w.has.ensures ∙ sym (ap (λ (z : Bool). z || has a.row a.i) (ne_eqb a.b a.i w.if-b-i.false))
    ] in
    sym (joined_no a.row a.b a.i a.mask (sym said ∙ c.if-has.false))
