use mathlib.Core.Path.{refl}
use native.Mathlib.Omega.{arith}
use Rattle.searching.proofs.choose.Goals as goal

-- A sure step stands first; else the next of a read's sources, or of all. Assumes nothing.
pub returns-then-j-lt3200 : goal.returns-then-j-lt3200
returns-then-j-lt3200 c k lent memory valid seen = record { sure = λ _. refl; rest = λ h. absurd (omega (arith, c.if-j-lt3200.true)) }

pub next_source-requires : goal.next_source-requires
next_source-requires c = c.requires.word c.if-sources-ne0.true

pub returns-then-sources-ne0 : goal.returns-then-sources-ne0
returns-then-sources-ne0 c k lent memory valid seen =
    record { sure = λ h. absurd (omega (arith, c.if-j-lt3200.false)); rest = λ _. c.next_source.ensures k _ memory (record { count = refl; actions = refl }) (seen c.if-sources-ne0.true) }

pub next_step-requires : goal.next_step-requires
next_step-requires c = c.requires.scanning

pub returns-else-sources-ne0 : goal.returns-else-sources-ne0
returns-else-sources-ne0 c k lent memory valid seen = record { sure = λ h. absurd (omega (arith, c.if-j-lt3200.false)); rest = λ _. c.next_step.ensures k lent memory valid }
