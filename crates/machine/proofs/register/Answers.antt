use mathlib.Core.Path.{◌∙◌, sym, ap}
use Rattle.rules.specs.State.{value_of}
use Rattle.machine.proofs.register.Goals as goal

pub returns : goal.returns
returns c = λ k s q h name. c.named.ensures k s q h ∙ ap (value_of s) (sym name)
