use mathlib.Core.Path.{refl}
use borrow.Author.Tests.{eq-eqb, ne_eqb}
use Rattle.issuing.proofs.own.Goals as goal

pub returns-then-e-p : goal.returns-then-e-p
returns-then-e-p c = λ k. rw (eq-eqb _ _ c.if-e-p.true) (c.has_item.ensures k)

pub returns-else-e-p : goal.returns-else-e-p
returns-else-e-p c = λ k. rw (ne_eqb _ _ c.if-e-p.false) refl
