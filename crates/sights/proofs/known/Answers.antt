use mathlib.Core.Path.{refl, ◌∙◌}
use Rattle.sights.proofs.Holds.{known_start, known_given}
use Rattle.sights.proofs.known.Goals as goal

pub returns-then-n-lt32 : goal.returns-then-n-lt32
returns-then-n-lt32 c =
    let a = c.args in
    λ x s g. c.has.ensures ∙ known_start x s a.masks.now a.sets.now g a.name _ refl c.if-n-lt32.true

pub returns-else-n-lt32 : goal.returns-else-n-lt32
returns-else-n-lt32 c = let a = c.args in λ x s g. c.has-else-n-lt32.ensures ∙ known_given x s a.masks.now a.sets.now g a.name c.if-n-lt32.false
