use mathlib.Core.Path.{◌∙◌, sym}
use Rattle.machine.proofs.Entries.{preset_some, preset_none}
use Rattle.machine.proofs.preset_of.Goals as goal

pub returns-then-has : goal.returns-then-has
returns-then-has c =
    let a = c.args in
    λ k q. preset_some k a.case.now.masks a.case.now.presets a.n q (sym c.has.ensures ∙ c.if-has.true)

pub returns-else-has : goal.returns-else-has
returns-else-has c =
    let a = c.args in
    λ k q. preset_none k a.case.now.masks a.case.now.presets a.n q (sym c.has.ensures ∙ c.if-has.false)
