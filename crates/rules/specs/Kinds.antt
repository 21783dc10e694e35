-- Document 01, 'The case block' and 'How a step changes the machine': instructions by kind. Assumes nothing.
use Rattle.std.specs.Prelude.{ℕ, ◌+◌, ◌-◌, ◌%◌, ◌<◌, Bool, true, false, cond, ◌&&◌, ◌||◌, List, [], ◌∷◌, ◌==◌}
use Rattle.std.proofs.Math.Option.{Option, none, some}
use Rattle.cases.specs.declared.Instr.{Instr}
use Rattle.cases.specs.declared.Instr.TheVariants.{Empty, Read, Write, Local, Branch, Goto, Acquire, Release}
use Rattle.cases.specs.declared.Expr.{Expr}
use Rattle.cases.specs.declared.Expr.TheVariants.{Constant, Sum, Difference, Equal}

-- An instruction is of one kind; the kinds are numbered.
abbrev pub kind : Instr → ℕ
kind Empty = 0
kind (Read d a) = 1
kind (Write a b) = 2
kind (Local d e) = 3
kind (Branch a l) = 4
kind (Goto l) = 5
kind (Acquire a) = 6
kind (Release a) = 7

abbrev pub reading : ℕ → Bool
reading k = k == 1

abbrev pub writing : ℕ → Bool
writing k = k == 2

abbrev pub computing : ℕ → Bool
computing k = k == 3

abbrev pub branching : ℕ → Bool
branching k = k == 4

abbrev pub acquiring : ℕ → Bool
acquiring k = k == 6

abbrev pub releasing : ℕ → Bool
releasing k = k == 7

-- A branch or a goto.
abbrev pub jumping : ℕ → Bool
jumping k = branching k || k == 5

-- A read or a write.
abbrev pub accesses : ℕ → Bool
accesses k = reading k || writing k

-- An acquire or a release.
abbrev pub syncs : ℕ → Bool
syncs k = acquiring k || releasing k

-- The registers of an expression.
abbrev pub operands : Expr → List ℕ
operands (Constant n) = []
operands (Sum a b) = a ∷ b ∷ []
operands (Difference a b) = a ∷ b ∷ []
operands (Equal a b) = a ∷ b ∷ []

-- The registers that an instruction reads, the address register first.
abbrev pub reads : Instr → List ℕ
reads Empty = []
reads (Read d a) = a ∷ []
reads (Write a b) = a ∷ b ∷ []
reads (Local d e) = operands e
reads (Branch a l) = a ∷ []
reads (Goto l) = []
reads (Acquire a) = a ∷ []
reads (Release a) = a ∷ []

-- The register that it assigns.
abbrev pub assigns : Instr → Option ℕ
assigns Empty = none
assigns (Read d a) = some d
assigns (Write a b) = none
assigns (Local d e) = some d
assigns (Branch a l) = none
assigns (Goto l) = none
assigns (Acquire a) = none
assigns (Release a) = none

-- The label of a branch or a goto.
abbrev pub label_of : Instr → ℕ
label_of Empty = 0
label_of (Read d a) = 0
label_of (Write a b) = 0
label_of (Local d e) = 0
label_of (Branch a l) = l
label_of (Goto l) = l
label_of (Acquire a) = 0
label_of (Release a) = 0

-- The value of an expression whose registers hold x and y; sums and differences wrap at 65,536.
abbrev pub evaluate : Expr → ℕ → ℕ → ℕ
evaluate (Constant n) x y = n
evaluate (Sum a b) x y = (x + y) % 65536
evaluate (Difference a b) x y = (x + (65536 - y)) % 65536
evaluate (Equal a b) x y = cond (x == y) 1 0

-- 'Which earlier uncommitted actions of the same processor hold back a commit, as a table by kind': one of kind q holds back
-- the commit of one of kind k; the last argument says whether the two have the same location. Request 03: 'branch and goto are now
-- held back by an acquire'.
unfoldable pub held_by : ℕ → ℕ → Bool → Bool
held_by k q same =
    (reading k && (acquiring q || (writing q && same)))
    || ((writing k || computing k || jumping k) && acquiring q)
    || (acquiring k && (acquiring q || releasing q))
    || releasing k
