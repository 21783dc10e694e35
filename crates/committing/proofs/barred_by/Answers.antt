use mathlib.Core.Path.{refl}
use borrow.Author.Tests.{ne_eqb}
use Rattle.committing.proofs.Inputs.{barred_is}
use borrow.Author.Rules.{rules}
use Rattle.committing.proofs.barred_by.Goals as goal

pub returns-then-h-ne-NOBODY : goal.returns-then-h-ne-NOBODY
returns-then-h-ne-NOBODY c =
    let a = c.args in
    let free = ne_eqb a.h 0 c.if-h-ne-NOBODY.true in
    rw (c.in-6.is, free) (rw (c.in-6.is, free) at (barred_is a.p a.kind a.h a.h refl))

pub returns-else-h-ne-NOBODY : goal.returns-else-h-ne-NOBODY
returns-else-h-ne-NOBODY c = rw (c.in-6.is, c.if-h-ne-NOBODY.false)

pub returns-in-7 : goal.returns-in-7
returns-in-7 c = let a = c.args in rw c.in-7.is (rw c.in-7.is at (barred_is a.p a.kind a.h a.h refl))

pub returns-in_default : goal.returns-in_default
returns-in_default c = let a = c.args in rw (ne_eqb a.kind 6 (search rules), ne_eqb a.kind 7 (search rules))
