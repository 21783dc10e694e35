use mathlib.Core.Path.{◌∙◌, sym}
use Rattle.machine.proofs.Entries.{name_start, name_given}
use Rattle.machine.proofs.named.Goals as goal

pub returns-then-n-lt32 : goal.returns-then-n-lt32
returns-then-n-lt32 c = λ k s q h. c.preset_of.ensures k q ∙ sym (name_start k s c.args.name c.if-n-lt32.true)

pub returns-else-n-lt32 : goal.returns-else-n-lt32
returns-else-n-lt32 c = λ k s q h. c.value_at.ensures k s h ∙ sym (name_given k s c.args.name c.if-n-lt32.false)
