use mathlib.Core.Path.{sym}
use borrow.Author.Tests.{eq-eqb, ne_eqb}
use Rattle.words.proofs.Bools.{cond-true, cond-false}
use Rattle.lines.specs.Outcome.{register}
use Rattle.lines.proofs.Behind.{laid_as}
use Rattle.lines.proofs.outcome.register.Goals as goal

pub returns-then-defined-eq0 : goal.returns-then-defined-eq0
unfolding register
returns-then-defined-eq0 c =
    laid_as (sym (cond-true _ _ _ (eq-eqb c.args.defined 0 c.if-defined-eq0.true))) c.put.ensures

pub returns-else-defined-eq0 : goal.returns-else-defined-eq0
unfolding register
returns-else-defined-eq0 c =
    laid_as (sym (cond-false _ _ _ (ne_eqb c.args.defined 0 c.if-defined-eq0.false))) c.decimal.ensures
