-- Request 01: the lines of a case's text, as values. Assumes nothing.
use Rattle.std.specs.Prelude.{List, [], ◌∷◌, ◌++◌, ℕ, zero, suc, ◌/◌, ◌%◌}
use Rattle.std.proofs.Math.Option.{Option, none, some}
use Rattle.words.specs.Small.{each, counting, concat_map}
use Rattle.cases.specs.declared.Instr.{Instr}
use Rattle.cases.specs.declared.Case.{Case}
use Rattle.cases.specs.Case.{count_of, instr_at, preset_of, word_of}

-- The first line, with the usual bound that an old text has; a memory word; a preset; an instruction.
pub data Line : Type 0 where
  head : ℕ → ℕ → Option ℕ → Line
  mem : ℕ → ℕ → Line
  reg : ℕ → ℕ → ℕ → Line
  op : ℕ → Instr → Line

-- 'a line for each nonzero memory word'
abbrev pub mem_line : ℕ → ℕ → List Line
mem_line l zero = []
mem_line l (suc v) = mem l (suc v) ∷ []

-- 'each preset'
abbrev pub reg_line : ℕ → ℕ → Option ℕ → List Line
reg_line p k none = []
reg_line p k (some v) = reg p k v ∷ []

module _ (c : Case) where
  -- 'each group in ascending order': words by location,
  abbrev pub mem_lines : List Line
  mem_lines = concat_map (λ l. mem_line l (word_of c l)) (counting 0 8)

  -- presets by processor and register,
  abbrev pub reg_lines : List Line
  reg_lines = concat_map (λ n. reg_line (n / 8) (n % 8) (preset_of c (n / 8) (n % 8))) (counting 0 32)

  -- 'instructions in program order', processor after processor.
  abbrev pub op_lines : List Line
  op_lines = concat_map (λ p. each (count_of c p) (λ i. op p (instr_at c p i))) (counting 0 4)

  -- The lines of the case's text; with a bound, of its old text.
  abbrev pub lines_of : Option ℕ → List Line
  lines_of bound = head c.procs c.locs bound ∷ (mem_lines ++ (reg_lines ++ op_lines))
