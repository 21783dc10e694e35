use mathlib.Core.Path.{refl}
use borrow.Author.Tests.{eq-eqb, ne_eqb}
use Rattle.machine.proofs.Entries.{none_option}
use Rattle.machine.proofs.queued.Goals as goal

pub returns-then-e-p : goal.returns-then-e-p
returns-then-e-p c = let e = c.args.e in λ k. rw (eq-eqb _ _ c.if-e-p.true) (none_option e.done e.result)

pub returns-else-e-p : goal.returns-else-e-p
returns-else-e-p c = λ k. rw (ne_eqb _ _ c.if-e-p.false) refl
