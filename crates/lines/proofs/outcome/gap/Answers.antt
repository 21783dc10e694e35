use mathlib.Core.Path.{sym}
use borrow.Author.Tests.{eq-eqb}
use Rattle.words.proofs.Bools.{cond-true}
use Rattle.lines.proofs.Behind.{laid_as, laid_none}
use Rattle.lines.proofs.outcome.gap.Goals as goal

-- Nothing before the first processor. Assumes nothing.
pub returns-then-p-eq0 : goal.returns-then-p-eq0
returns-then-p-eq0 c = laid_as (sym (cond-true _ _ _ (eq-eqb c.args.p 0 c.if-p-eq0.true))) (laid_none _ _)
