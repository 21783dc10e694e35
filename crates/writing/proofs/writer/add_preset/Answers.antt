use mathlib.Core.Path.{sym, ◌∙◌}
use Rattle.writing.proofs.Writes.{preset_none, preset_some}
use Rattle.writing.proofs.writer.add_preset.Goals as goal

pub returns-then-has : goal.returns-then-has
returns-then-has c = preset_some c.args.p c.args.k c.args.v _ (sym c.has.ensures ∙ c.if-has.true) c.add.ensures

pub returns-else-has : goal.returns-else-has
returns-else-has c = preset_none c.args.page.now c.args.at c.args.p c.args.k c.args.v _ (sym c.has.ensures ∙ c.if-has.false)
