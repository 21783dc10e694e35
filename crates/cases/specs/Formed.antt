-- What the declared types say of their values: lengths and ranges. Assumes nothing.
use Rattle.std.specs.Prelude.{◌≡◌, false, List, ℕ, ◌≤◌, ◌<◌, length, get_or}
use Rattle.cases.specs.declared.Expr.{Expr}
use Rattle.cases.specs.declared.Expr.TheVariants.{Constant, Sum, Difference, Equal}
use Rattle.cases.specs.declared.Instr.{Instr}
use Rattle.cases.specs.declared.Instr.TheVariants.{Empty, Read, Write, Local, Branch, Goto, Acquire, Release}
use Rattle.cases.specs.declared.Case.{Case}
use Rattle.cases.specs.Case.{slot_in}
use Rattle.cases.specs.Block.{byte, word, check, read_of}

-- Every number of the list is below n.
pub record Below (n : ℕ) (l : List ℕ) : Type 0 where
  pub each : (i : ℕ) → get_or l i 0 < n

-- Every number of the list is a byte.
abbrev pub Bytes : List ℕ → Type 0
Bytes = Below 256

-- The fields of an expression fit: registers a byte, a constant two.
abbrev pub ExprFits : Expr → Type 0
ExprFits (Constant n) = n < 65536
ExprFits (Sum a b) = (a < 256) × (b < 256)
ExprFits (Difference a b) = (a < 256) × (b < 256)
ExprFits (Equal a b) = (a < 256) × (b < 256)

-- The fields of an instruction fit.
abbrev pub InstrFits : Instr → Type 0
InstrFits Empty = Unit
InstrFits (Read d a) = (d < 256) × (a < 256)
InstrFits (Write a b) = (a < 256) × (b < 256)
InstrFits (Local d e) = (d < 256) × ExprFits e
InstrFits (Branch a l) = (a < 256) × (l < 65536)
InstrFits (Goto l) = l < 65536
InstrFits (Acquire a) = a < 256
InstrFits (Release a) = a < 256

-- A record of the declared type.
pub record Formed (c : Case) : Type 0 where
  pub procs : c.procs < 256
  pub locs : c.locs < 256
  pub counts : (length c.counts ≡ 4) × Bytes c.counts
  pub masks : (length c.masks ≡ 4) × Bytes c.masks
  pub presets : (length c.presets ≡ 32) × Below 65536 c.presets
  pub memory : (length c.memory ≡ 8) × Below 65536 c.memory
  pub code : (length c.code ≡ 48) × ((n : ℕ) → InstrFits (slot_in c n))

-- Some block without usual bound holds the case: reading it gives code 0 and the case.
pub record Held (c : Case) : Type 0 where
  pub block : List ℕ
  pub bytes : Bytes block
  pub read : read_of block ≡ record { code = 0; position = 0; usual = false; case = c }

-- The block out is the block s but for the usual bound, which is 0, and the check.
pub record Rewritten (s out : List ℕ) : Type 0 where
  pub long : length out ≡ 512
  pub second : byte out 2 ≡ 0
  pub others : (i : ℕ) → i < 510 → (i ≡ 2 → ⊥) → byte out i ≡ byte s i
  pub checked : word out 510 ≡ check out

-- Two blocks of the right length and check that differ in the usual bound, and so in the check, alone.
pub record Twins (s t : List ℕ) : Type 0 where
  pub long : (length s ≡ 512) × (length t ≡ 512)
  pub checked : (word s 510 ≡ check s) × (word t 510 ≡ check t)
  pub few : (byte s 2 ≤ 96) × (byte t 2 ≤ 96)
  pub same : (i : ℕ) → i < 510 → (i ≡ 2 → ⊥) → byte s i ≡ byte t i
