-- The text of a case in its pieces, as they are laid. Assumes nothing.
use Rattle.std.specs.Prelude.{cond, List, ℕ, ◌+◌, ◌*◌, ◌/◌, ◌%◌, get_or}
use Rattle.std.proofs.Math.Option.{none, some}
use Rattle.words.specs.Small.{counting, concat_map}
use Rattle.words.specs.Sets.{has}
use Rattle.cases.specs.declared.Slot.{Slot}
use Rattle.cases.specs.declared.Instr.TheVariants.{Empty}
use Rattle.texts.specs.Lines.{mem_line, reg_line, op}
use Rattle.texts.specs.Text.{line_bytes}

-- The line of location l, if its word is not zero.
abbrev pub word_text : List ℕ → ℕ → List ℕ
word_text memory l = concat_map line_bytes (mem_line l (get_or memory l 0))

-- The line of register n % 8 of processor n / 8, if it is preset.
abbrev pub preset_text : List ℕ → List ℕ → ℕ → List ℕ
preset_text masks presets n =
    concat_map line_bytes (reg_line (n / 8) (n % 8) (cond (has (get_or masks (n / 8) 0) (n % 8)) (some (get_or presets (8 * (n / 8) + n % 8) 0)) none))

-- The line of instruction i of processor p.
abbrev pub op_text : List Slot → ℕ → ℕ → List ℕ
op_text code p i = line_bytes (op p (get_or code (12 * p + i) (record { instr = Empty })).instr)

-- The lines of processor p.
abbrev pub program_text : List ℕ → List Slot → ℕ → List ℕ
program_text counts code p = concat_map (op_text code p) (counting 0 (get_or counts p 0))
