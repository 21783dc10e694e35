-- The fields of a case, by processor and number. Assumes nothing.
use Rattle.std.specs.Prelude.{cond, ℕ, ◌+◌, ◌*◌, get_or}
use Rattle.std.proofs.Math.Option.{Option, none, some}
use Rattle.words.specs.Sets.{has}
use Rattle.cases.specs.declared.Instr.{Instr}
use Rattle.cases.specs.declared.Instr.TheVariants.{Empty}
use Rattle.cases.specs.declared.Case.{Case}

-- How many instructions processor p has.
abbrev pub count_of : Case → ℕ → ℕ
count_of c p = get_or c.counts p 0

-- The instruction in slot n, the empty one past the last.
abbrev pub slot_in : Case → ℕ → Instr
slot_in c n = (get_or c.code n (record { instr = Empty })).instr

-- Instruction i of processor p.
abbrev pub instr_at : Case → ℕ → ℕ → Instr
instr_at c p i = slot_in c (12 * p + i)

-- What register k of processor p starts with: its preset where bit k of the mask is set.
abbrev pub preset_of : Case → ℕ → ℕ → Option ℕ
preset_of c p k = cond (has (get_or c.masks p 0) k) (some (get_or c.presets (8 * p + k) 0)) none

-- The word that location l starts with.
abbrev pub word_of : Case → ℕ → ℕ
word_of c l = get_or c.memory l 0
