use Prim.Native.Nat.{◌+◌, ◌*◌}
use Rattle.words.specs.Small.{concat_map}
use Rattle.records.specs.Buffer.{records_in}
use Rattle.lines.specs.Outcome.{outcome_line}
use Rattle.lines.proofs.Rows.{Rows}
use Rattle.lines.proofs.outcome.outcome_lines.Given as goal

-- The lines of the first k records are laid. Assumes nothing.
abbrev pub invariant-loop-k : goal.invariant-loop-k
invariant-loop-k l = Rows (53 * l.procs + 1) l.initial.text l.at (concat_map (outcome_line l.procs) (records_in l.k l.records)) l.text l.end l.k
