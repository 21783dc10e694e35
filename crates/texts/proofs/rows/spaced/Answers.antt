use native.Mathlib.Omega.{arith}
use Rattle.texts.proofs.Numbered.{number_laid}
use Rattle.texts.proofs.rows.spaced.Goals as goal

pub returns : goal.returns
returns c = number_laid c.args.n (omega (arith, c.ranges.n)) c.word-behind_gap.ensures c.decimal.ensures
