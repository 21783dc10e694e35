use Rattle.words.specs.Small.{counting, concat_map}
use Rattle.lines.proofs.Rows.{Rows}
use Rattle.writing.specs.Laying.{op_text}
use Rattle.writing.proofs.writer.add_program.Given as goal

-- The first i instructions are laid. Assumes nothing.
abbrev pub invariant-loop-i : goal.invariant-loop-i
invariant-loop-i l = Rows 40 l.initial.page l.at (concat_map (op_text l.code l.p) (counting 0 l.i)) l.page l.to l.i
