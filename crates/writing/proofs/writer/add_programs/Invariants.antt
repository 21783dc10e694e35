use Rattle.words.specs.Small.{counting, concat_map}
use Rattle.lines.proofs.Rows.{Rows}
use Rattle.writing.specs.Laying.{program_text}
use Rattle.writing.proofs.writer.add_programs.Given as goal

-- The first p programs are laid. Assumes nothing.
abbrev pub invariant-loop-p : goal.invariant-loop-p
invariant-loop-p l = Rows 480 l.initial.page l.at (concat_map (program_text l.counts l.code) (counting 0 l.p)) l.page l.to l.p
