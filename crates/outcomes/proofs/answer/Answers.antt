-- By the length of the input. Assumes nothing.
use mathlib.Core.Path.{refl}
use native.Mathlib.Omega.{arith}
use Rattle.lines.proofs.Behind.{laid_printed}
use Rattle.outcomes.proofs.answer.Goals as goal

pub returns-else-input-eq513 : goal.returns-else-input-eq513
returns-else-input-eq513 c =
    let line = c.refusal.ensures in
    record {
      text = _;
      said = record { whole = λ e. absurd (c.if-input-eq513.false e); other = λ _. refl };
      printed = laid_printed line.laid (omega (arith, line.short, c.requires));
    }
