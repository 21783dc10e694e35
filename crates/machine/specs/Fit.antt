-- What the machine asks of a case; a sound case has it. Assumes nothing.
use Rattle.std.specs.Prelude.{◌≡◌, ℕ, ◌≤◌, ◌<◌, length}
use Rattle.cases.specs.declared.Case.{Case}
use Rattle.cases.specs.declared.Instr.{Instr}
use Rattle.cases.specs.declared.Instr.TheVariants.{Empty, Read, Write, Local, Branch, Goto, Acquire, Release}
use Rattle.cases.specs.declared.Expr.{Expr}
use Rattle.cases.specs.declared.Expr.TheVariants.{Constant, Sum, Difference, Equal}
use Rattle.cases.specs.Case.{count_of, instr_at}

-- Registers below 8.
abbrev pub FineExpr : Expr → Type 0
FineExpr (Constant n) = Unit {0}
FineExpr (Sum a b) = (a < 8) × (b < 8)
FineExpr (Difference a b) = (a < 8) × (b < 8)
FineExpr (Equal a b) = (a < 8) × (b < 8)

-- An instruction, registers below 8, labels at most 12.
abbrev pub Fine : Instr → Type 0
Fine Empty = ⊥
Fine (Read d a) = (d < 8) × (a < 8)
Fine (Write a b) = (a < 8) × (b < 8)
Fine (Local d e) = (d < 8) × FineExpr e
Fine (Branch a l) = (a < 8) × (l ≤ 12)
Fine (Goto l) = l ≤ 12
Fine (Acquire a) = a < 8
Fine (Release a) = a < 8

pub record Fit (c : Case) : Type 0 where
  pub procs : c.procs ≤ 4
  pub locs : c.locs ≤ 8
  pub counts : (p : ℕ) → count_of c p ≤ 12
  pub fine : (p i : ℕ) → p < 4 → i < count_of c p → Fine (instr_at c p i)
  pub counts_long : length c.counts ≡ 4
  pub masks_long : length c.masks ≡ 4
  pub presets_long : length c.presets ≡ 32
  pub memory_long : length c.memory ≡ 8
  pub code_long : length c.code ≡ 48
