use Prim.Native.Nat.{ℕ}
use lib.ListN.{get_or}
use Rattle.words.specs.Small.{counting}
use Rattle.lines.specs.Laid.{Laid}
use Rattle.shelves.specs.Report.{count_lines}
use Rattle.shelves.proofs.printing.count_lines.Given as goal

-- The lines passed are laid. Assumes nothing.
abbrev pub invariant-loop-i : goal.invariant-loop-i
invariant-loop-i l = Laid l.initial.text l.at (count_lines l.word (λ (k : ℕ). get_or l.counts k 0) (counting l.from l.i)) l.text l.end
