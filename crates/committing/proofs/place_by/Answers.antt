use mathlib.Core.Path.{◌∙◌, ap}
use borrow.Author.Tests.{eq-eqb, ne_eqb}
use Rattle.committing.specs.Committed.{branch_to}
use Rattle.committing.proofs.place_by.Goals as goal

pub returns-then-kind-eq4 : goal.returns-then-kind-eq4
returns-then-kind-eq4 c = let a = c.args in rw (eq-eqb a.kind 4 c.if-kind-eq4.true) (c.branch_to.ensures ∙ ap (branch_to a.x a.place) c.label_of.ensures)

pub returns-else-kind-eq4 : goal.returns-else-kind-eq4
returns-else-kind-eq4 c = rw (ne_eqb c.args.kind 4 c.if-kind-eq4.false)
