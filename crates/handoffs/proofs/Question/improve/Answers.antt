use mathlib.Core.Path.{sym, ◌∙◌}
use Rattle.handoffs.proofs.Parts.{found_is, improve_none, improve_first, improve_kept, improve_lower, over_all}
use borrow.Author.Rules.{rules}
use Rattle.handoffs.proofs.Question.improve.Goals as goal

pub returns-then-below : goal.returns-then-below
returns-then-below c =
    improve_lower c.settle-a.ensures.0 c.requires.level c.if-a.true (found_is c.args.best ∙ sym c.is_some.ensures ∙ c.if-is_some.true) (sym c.below.ensures ∙ c.if-below.true) (over_all _ c.args.out.now (search rules) c.write.ensures)

pub returns-then-is_some : goal.returns-then-is_some
returns-then-is_some c =
    improve_kept c.settle-a.ensures.0 c.requires.level c.if-a.true (found_is c.args.best ∙ sym c.is_some.ensures ∙ c.if-is_some.true) (sym c.below.ensures ∙ c.if-below.false)

pub returns-then-a : goal.returns-then-a
returns-then-a c =
    improve_first c.settle-a.ensures.0 c.if-a.true (found_is c.args.best ∙ sym c.is_some.ensures ∙ c.if-is_some.false) (over_all _ c.args.out.now (search rules) c.write-then-a.ensures)

pub returns : goal.returns
returns c =
    improve_none c.settle-a.ensures.0 c.if-a.false
