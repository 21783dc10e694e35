use mathlib.Core.Path.{◌∙◌, ap}
use Rattle.words.specs.Small.{or_zero}
use Rattle.committing.proofs.input.Goals as goal

pub returns : goal.returns
returns c = λ k s q h. c.or_zero.ensures ∙ ap or_zero (c.named.ensures k s q h)
