use Rattle.words.specs.Small.{counting, concat_map}
use Rattle.lines.proofs.Rows.{Rows}
use Rattle.writing.specs.Laying.{word_text}
use Rattle.writing.proofs.writer.add_words.Given as goal

-- The first l locations are laid. Assumes nothing.
abbrev pub invariant-loop-l : goal.invariant-loop-l
invariant-loop-l l = Rows 40 l.initial.page l.at (concat_map (word_text l.memory) (counting 0 l.l)) l.page l.to l.l
