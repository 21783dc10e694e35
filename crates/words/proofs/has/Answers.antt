use Rattle.std.proofs.Common.{sym, ◌∙◌}
use borrow.Author.Tests.{le-ltb}
use Rattle.words.proofs.Sets.{has_high}
use Rattle.words.proofs.has.Goals as goal

pub returns-else-k-lt64 : goal.returns-else-k-lt64
returns-else-k-lt64 c =
    le-ltb c.args.k 64 c.if-k-lt64.false ∙ sym (has_high c.args.x c.args.k c.ranges.x.fits c.if-k-lt64.false)
