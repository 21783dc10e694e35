use lib.ListN.{take}
use Rattle.lines.specs.Laid.{Laid}
use Rattle.lines.proofs.laying.word.Given as goal

-- The first bytes are laid. Assumes nothing.
abbrev pub invariant-loop-b : goal.invariant-loop-b
invariant-loop-b l = Laid l.initial.text l.at (take l.b-index l.bytes) l.text l.end
