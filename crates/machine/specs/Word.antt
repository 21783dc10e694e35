-- An entry as one word, its fields as digits. Assumes nothing.
use Rattle.std.specs.Prelude.{cond, List, [], ◌∷◌, ℕ, ◌+◌, ◌*◌, ◌/◌, ◌%◌, ◌<◌, eqb, get_or}
use Rattle.cases.specs.declared.Instr.{Instr}
use Rattle.cases.specs.declared.Instr.TheVariants.{Empty, Read, Write, Local, Branch, Goto, Acquire, Release}
use Rattle.cases.specs.declared.Expr.{Expr}
use Rattle.cases.specs.declared.Expr.TheVariants.{Constant, Sum, Difference, Equal}
use Rattle.cases.specs.Instruction.{instr_of}
use Rattle.machine.specs.declared.Entry.{Entry}
use Rattle.machine.specs.Fit.{Fine}

-- The instruction of an op, of d, and of n: the constant of op 3, else a, b and the label, the lowest first.
abbrev pub instr_in : ℕ → ℕ → ℕ → Instr
instr_in op d n = instr_of op d (n % 8) (n / 8 % 8) (cond (eqb op 3) n (n / 8 / 8))

-- The instruction of a number below 8,388,608.
abbrev pub instr_from : ℕ → Instr
instr_from n = instr_in (n % 16) (n / 16 % 8) (n / 16 / 8)

-- The number of an op with its fields, each cut to its width.
abbrev pub coded : ℕ → ℕ → ℕ → ℕ → ℕ → ℕ
coded op d a b l = op + 16 * (d % 8 + 8 * (a % 8 + 8 * (b % 8 + 8 * (l % 16))))

-- The number of a local instruction.
abbrev pub local_code : ℕ → Expr → ℕ
local_code d (Constant n) = 3 + 16 * (d % 8 + 8 * n)
local_code d (Sum a b) = coded 4 d a b 0
local_code d (Difference a b) = coded 5 d a b 0
local_code d (Equal a b) = coded 6 d a b 0

-- The number of an instruction.
abbrev pub code_of : Instr → ℕ
code_of Empty = 0
code_of (Read d a) = coded 1 d a 0 0
code_of (Write a b) = coded 2 0 a b 0
code_of (Local d e) = local_code d e
code_of (Branch a l) = coded 7 0 a 0 l
code_of (Goto l) = coded 8 0 0 0 l
code_of (Acquire a) = coded 9 0 a 0 0
code_of (Release a) = coded 10 0 a 0 0

-- The digits of a word by their radices, the lowest first.
abbrev pub digits : List ℕ → ℕ → List ℕ
digits [] w = []
digits (r ∷ more) w = w % r ∷ digits more (w / r)

-- Instruction, processor, place, both names, location, whether it is done, result.
abbrev pub radices : List ℕ
radices = 8388608 ∷ 4 ∷ 16 ∷ 128 ∷ 128 ∷ 8 ∷ 2 ∷ 65536 ∷ []

abbrev pub digit : ℕ → ℕ → ℕ
digit w j = get_or (digits radices w) j 0

-- The entry that a word holds.
unfoldable pub entry_of : ℕ → Entry
entry_of w =
    record {
      instr = instr_from (digit w 0);
      proc = digit w 1;
      place = digit w 2;
      first = digit w 3;
      second = digit w 4;
      loc = digit w 5;
      done = eqb (digit w 6) 1;
      result = digit w 7;
    }

-- An entry that a word can hold.
pub record Packable (e : Entry) : Type 0 where
  pub fine : Fine e.instr
  pub proc : e.proc < 4
  pub place : e.place < 16
  pub first : e.first < 128
  pub second : e.second < 128
  pub loc : e.loc < 8
