use Rattle.words.specs.Small.{counting, concat_map}
use Rattle.lines.specs.Outcome.{register_at}
use Rattle.lines.proofs.Rows.{Rows}
use Rattle.lines.proofs.outcome.registers.Given as goal

-- The first k registers are laid. Assumes nothing.
abbrev pub invariant-loop-k : goal.invariant-loop-k
invariant-loop-k l = Rows 6 l.initial.text l.at (concat_map (register_at l.outcome l.p) (counting 0 l.k)) l.text l.end l.k
