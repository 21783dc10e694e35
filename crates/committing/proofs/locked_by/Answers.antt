use borrow.Author.Rules.{rules}
use borrow.Author.Tests.{ne_eqb}
use Rattle.committing.proofs.locked_by.Goals as goal

pub returns-in-6 : goal.returns-in-6
returns-in-6 c = rw c.in-6.is c.put_holder.ensures

pub returns-in-7 : goal.returns-in-7
returns-in-7 c = rw c.in-7.is c.put_holder-in-7.ensures

pub returns-in_default : goal.returns-in_default
returns-in_default c = let a = c.args in rw (ne_eqb a.kind 6 (search rules), ne_eqb a.kind 7 (search rules))
