-- An instruction's six bytes: op, d, a, b, then a two-byte constant. Assumes nothing.
use Rattle.std.specs.Prelude.{Bool, true, false, not, List, [], ◌∷◌, ℕ, ◌/◌, ◌%◌, eqb, ltb, leb, get_or}
use Rattle.cases.specs.declared.Instr.{Instr}
use Rattle.cases.specs.declared.Instr.TheVariants.{Empty, Read, Write, Local, Branch, Goto, Acquire, Release}
use Rattle.cases.specs.declared.faults.FieldKind.{FieldKind}
use Rattle.cases.specs.declared.faults.FieldKind.TheVariants.{Zeroed, Assigned, Read as ReadOne, Free, Label}
use Rattle.cases.specs.declared.Expr.{Expr}
use Rattle.cases.specs.declared.Expr.TheVariants.{Constant, Sum, Difference, Equal}

-- What a byte after the op may be: zero, the register assigned, a register read, any byte, the low byte of a label.
pub data Field : Type 0 where
  zeroed assigned read free label : Field

-- The five bytes after each op from 0 to 10: d, a, b and the constant's low and high byte.
abbrev pub fields : List (List Field)
fields =
    []
    ∷ (assigned ∷ read ∷ zeroed ∷ zeroed ∷ zeroed ∷ [])
    ∷ (zeroed ∷ read ∷ read ∷ zeroed ∷ zeroed ∷ [])
    ∷ (assigned ∷ zeroed ∷ zeroed ∷ free ∷ free ∷ [])
    ∷ (assigned ∷ read ∷ read ∷ zeroed ∷ zeroed ∷ [])
    ∷ (assigned ∷ read ∷ read ∷ zeroed ∷ zeroed ∷ [])
    ∷ (assigned ∷ read ∷ read ∷ zeroed ∷ zeroed ∷ [])
    ∷ (zeroed ∷ read ∷ zeroed ∷ label ∷ free ∷ [])
    ∷ (zeroed ∷ zeroed ∷ zeroed ∷ label ∷ free ∷ [])
    ∷ (zeroed ∷ read ∷ zeroed ∷ zeroed ∷ zeroed ∷ [])
    ∷ (zeroed ∷ read ∷ zeroed ∷ zeroed ∷ zeroed ∷ [])
    ∷ []

-- What byte k after this op may be; all zero after a bad op.
abbrev pub field_at : ℕ → ℕ → Field
field_at op k = get_or (get_or fields op []) k zeroed

-- The field that the code calls so.
abbrev pub field_of : FieldKind → Field
field_of Zeroed = zeroed
field_of Assigned = assigned
field_of ReadOne = read
field_of Free = free
field_of Label = label

-- The byte v is bad there; the label is w, of a processor with n instructions.
abbrev pub bad_field : Field → ℕ → ℕ → ℕ → Bool
bad_field zeroed n v w = not (eqb v 0)
bad_field assigned n v w = leb 8 v
bad_field read n v w = leb 8 v
bad_field free n v w = false
bad_field label n v w = ltb n w

-- The byte names a register that is assigned.
abbrev pub is_assigned : Field → Bool
is_assigned zeroed = false
is_assigned assigned = true
is_assigned read = false
is_assigned free = false
is_assigned label = false

-- The byte names a register that is read.
abbrev pub is_read : Field → Bool
is_read zeroed = false
is_read assigned = false
is_read read = true
is_read free = false
is_read label = false

-- The instruction of an op and its fields, ops 0 to 10 in order.
abbrev pub instr_of : ℕ → ℕ → ℕ → ℕ → ℕ → Instr
instr_of op d a b k =
    get_or
    (Empty
    ∷ Read d a
    ∷ Write a b
    ∷ Local d (Constant k)
    ∷ Local d (Sum a b)
    ∷ Local d (Difference a b)
    ∷ Local d (Equal a b)
    ∷ Branch a k
    ∷ Goto k
    ∷ Acquire a
    ∷ Release a
    ∷ [])
    op
    Empty

-- A two-byte number, low byte first.
abbrev pub two : ℕ → List ℕ
two n = n % 256 ∷ n / 256 ∷ []

-- Six bytes.
abbrev pub six : ℕ → ℕ → ℕ → ℕ → ℕ → List ℕ
six op d a b k = op ∷ d ∷ a ∷ b ∷ two k

-- The six bytes of a local instruction.
abbrev pub local_bytes : ℕ → Expr → List ℕ
local_bytes d (Constant n) = six 3 d 0 0 n
local_bytes d (Sum a b) = six 4 d a b 0
local_bytes d (Difference a b) = six 5 d a b 0
local_bytes d (Equal a b) = six 6 d a b 0

-- The six bytes of an instruction; the empty one is all zeros.
abbrev pub instr_bytes : Instr → List ℕ
instr_bytes Empty = six 0 0 0 0 0
instr_bytes (Read d a) = six 1 d a 0 0
instr_bytes (Write a b) = six 2 0 a b 0
instr_bytes (Local d e) = local_bytes d e
instr_bytes (Branch a l) = six 7 0 a 0 l
instr_bytes (Goto l) = six 8 0 0 0 l
instr_bytes (Acquire a) = six 9 0 a 0 0
instr_bytes (Release a) = six 10 0 a 0 0
