use mathlib.Core.Path.{◌∙◌, sym}
use Rattle.machine.proofs.Entries.{item_start, item_given}
use Rattle.machine.proofs.item_value.Goals as goal

pub returns-then-e-lt8 : goal.returns-then-e-lt8
returns-then-e-lt8 c = let a = c.args in λ k s q h. sym (item_start k s a.case.now.memory a.e q c.if-e-lt8.true)

pub returns-else-e-lt8 : goal.returns-else-e-lt8
returns-else-e-lt8 c = let a = c.args in λ k s q h. c.value_at.ensures k s h ∙ sym (item_given k s a.e c.if-e-lt8.false)
