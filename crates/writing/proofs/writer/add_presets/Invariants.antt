use Rattle.words.specs.Small.{counting, concat_map}
use Rattle.lines.proofs.Rows.{Rows}
use Rattle.writing.specs.Laying.{preset_text}
use Rattle.writing.proofs.writer.add_presets.Given as goal

-- The first n registers are laid. Assumes nothing.
abbrev pub invariant-loop-n : goal.invariant-loop-n
invariant-loop-n l = Rows 40 l.initial.page l.at (concat_map (preset_text l.masks l.presets) (counting 0 l.n)) l.page l.to l.n
