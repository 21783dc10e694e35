use mathlib.Core.Path.{refl, ◌∙◌}
use Rattle.machine.specs.Shown.{shown}
use Rattle.searching.proofs.Entered.{entered_step}
use Rattle.asking.proofs.Question.after_step.Goals as goal

-- The step at a position is that of the search. Assumes nothing.
pub enter-requires : goal.enter-requires
enter-requires c =
    record { case = c.args.self.now.case; coded = c.requires.coded; entering = record { valid = c.requires.fitting.valid; fits = λ _. c.requires.fitting.fits } }

pub returns : goal.returns
returns c =
    let a = c.args in
    let took = c.enter.ensures a.self.now.case c.requires.coded (record { masks = refl; presets = refl }) refl (record { valid = c.requires.fitting.valid; fits = λ _. c.requires.fitting.fits }) in
    record { shows = took.shows ∙ entered_step a.self.now.case (shown a.self.now.case a.m.now) a.j c.requires.fitting.low; valid = took.valid }
