use mathlib.Core.Path.{refl}
use native.Mathlib.Omega.{arith}
use Rattle.searching.proofs.wake.Goals as goal

-- A step wakes what it wakes; without one all stays spent. Assumes nothing.
pub rest-requires : goal.rest-requires
rest-requires c =
    record { issued = c.requires.0; low = c.if-i-lt3200.true; long = c.requires.1 }

pub returns-then-i-lt3200 : goal.returns-then-i-lt3200
returns-then-i-lt3200 c k s starts shows fits =
    let low = c.if-i-lt3200.true in
    record { step = λ _. c.rest.ensures k s starts shows (fits low); none = λ h. absurd (omega (arith, low)) }

pub returns-else-i-lt3200 : goal.returns-else-i-lt3200
returns-else-i-lt3200 c k s starts shows fits = record { step = λ h. absurd (omega (arith, c.if-i-lt3200.false)); none = λ _. refl }
