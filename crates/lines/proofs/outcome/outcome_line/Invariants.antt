use Rattle.words.specs.Small.{counting, concat_map}
use Rattle.lines.specs.Outcome.{processor}
use Rattle.lines.proofs.Rows.{Rows}
use Rattle.lines.proofs.outcome.outcome_line.Given as goal

-- The first p processors are laid. Assumes nothing.
abbrev pub invariant-loop-p : goal.invariant-loop-p
invariant-loop-p l = Rows 53 l.initial.text l.at (concat_map (processor l.outcome) (counting 0 l.p)) l.text l.end l.p
