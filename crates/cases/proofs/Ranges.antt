-- The block that holds a case is made of bytes. Assumes nothing.
use mathlib.Core.List.{List, [], ◌∷◌, ◌++◌}
use Prim.Native.Nat.{ℕ, zero, suc, ◌<◌}
use native.Mathlib.Omega.{arith}
use lib.ListN.{get_or, replicate}
use Rattle.words.specs.Small.{concat_map}
use Rattle.cases.specs.declared.Expr.{Expr}
use Rattle.cases.specs.declared.Expr.TheVariants.{Constant, Sum, Difference, Equal}
use Rattle.cases.specs.declared.Instr.{Instr}
use Rattle.cases.specs.declared.Instr.TheVariants.{Empty, Read, Write, Local, Branch, Goto, Acquire, Release}
use Rattle.cases.specs.declared.Case.{Case}
use Rattle.cases.specs.Instruction.{two, six, local_bytes, instr_bytes}
use Rattle.cases.specs.Block.{check, slot_bytes, contents, block_of}
use Rattle.cases.specs.Formed.{Bytes, ExprFits, InstrFits, Formed}

pub nil_bytes : Bytes []
nil_bytes = record { each = λ i. omega arith }

pub cons_bytes : {x : ℕ} {l : List ℕ} → x < 256 → Bytes l → Bytes (x ∷ l)
cons_bytes {x} {l} h b = record { each = at }
  where
    at : (i : ℕ) → get_or (x ∷ l) i 0 < 256
    at zero = h
    at (suc i) = b.each i

rest_bytes : {x : ℕ} {l : List ℕ} → Bytes (x ∷ l) → Bytes l
rest_bytes b = record { each = λ i. b.each (suc i) }

pub append_bytes : (a : List ℕ) {b : List ℕ} → Bytes a → Bytes b → Bytes (a ++ b)
append_bytes [] p q = q
append_bytes (x ∷ a) p q = cons_bytes (p.each 0) (append_bytes a (rest_bytes p) q)

pub zero_bytes : (n : ℕ) → Bytes (replicate n 0)
zero_bytes zero = nil_bytes
zero_bytes (suc n) = cons_bytes (omega arith) (zero_bytes n)

pub concat_bytes : {A : Type 0} (f : A → List ℕ) (d : A) (l : List A) → ((i : ℕ) → Bytes (f (get_or l i d))) → Bytes (concat_map f l)
concat_bytes f d [] h = nil_bytes
concat_bytes f d (x ∷ l) h = append_bytes (f x) (h 0) (concat_bytes f d l (λ i. h (suc i)))

pub two_bytes : (n : ℕ) → n < 65536 → Bytes (two n)
two_bytes n h = cons_bytes (omega arith) (cons_bytes (omega arith) nil_bytes)

six_bytes : (op d a b k : ℕ) → op < 256 → d < 256 → a < 256 → b < 256 → k < 65536 → Bytes (six op d a b k)
six_bytes op d a b k o p q r h = cons_bytes o (cons_bytes p (cons_bytes q (cons_bytes r (two_bytes k h))))

local_bytes_lem : (d : ℕ) (e : Expr) → d < 256 → ExprFits e → Bytes (local_bytes d e)
local_bytes_lem d (Constant n) h f = six_bytes 3 d 0 0 n (omega arith) h (omega arith) (omega arith) f
local_bytes_lem d (Sum a b) h f = six_bytes 4 d a b 0 (omega arith) h f.0 f.1 (omega arith)
local_bytes_lem d (Difference a b) h f = six_bytes 5 d a b 0 (omega arith) h f.0 f.1 (omega arith)
local_bytes_lem d (Equal a b) h f = six_bytes 6 d a b 0 (omega arith) h f.0 f.1 (omega arith)

instr_bytes_lem : (i : Instr) → InstrFits i → Bytes (instr_bytes i)
instr_bytes_lem Empty f = six_bytes 0 0 0 0 0 (omega arith) (omega arith) (omega arith) (omega arith) (omega arith)
instr_bytes_lem (Read d a) f = six_bytes 1 d a 0 0 (omega arith) f.0 f.1 (omega arith) (omega arith)
instr_bytes_lem (Write a b) f = six_bytes 2 0 a b 0 (omega arith) (omega arith) f.0 f.1 (omega arith)
instr_bytes_lem (Local d e) f = local_bytes_lem d e f.0 f.1
instr_bytes_lem (Branch a l) f = six_bytes 7 0 a 0 l (omega arith) (omega arith) f.0 (omega arith) f.1
instr_bytes_lem (Goto l) f = six_bytes 8 0 0 0 l (omega arith) (omega arith) (omega arith) (omega arith) f
instr_bytes_lem (Acquire a) f = six_bytes 9 0 a 0 0 (omega arith) (omega arith) f (omega arith) (omega arith)
instr_bytes_lem (Release a) f = six_bytes 10 0 a 0 0 (omega arith) (omega arith) f (omega arith) (omega arith)

pub block_bytes : (c : Case) → Formed c → Bytes (block_of c)
unfolding block_of contents
block_bytes c f =
    append_bytes (contents c)
    (cons_bytes f.procs
    (cons_bytes f.locs
    (cons_bytes (omega arith)
    (cons_bytes (omega arith)
    (append_bytes c.counts f.counts.1
    (append_bytes c.masks f.masks.1
    (append_bytes (concat_map two c.presets) (concat_bytes two 0 c.presets (λ i. two_bytes (get_or c.presets i 0) (f.presets.1.each i)))
    (append_bytes (concat_map two c.memory) (concat_bytes two 0 c.memory (λ i. two_bytes (get_or c.memory i 0) (f.memory.1.each i)))
    (append_bytes (concat_map slot_bytes c.code) (concat_bytes slot_bytes (record { instr = Empty }) c.code (λ i. instr_bytes_lem (get_or c.code i (record { instr = Empty })).instr (f.code.1 i)))
    (zero_bytes 130))))))))))
    (two_bytes (check (contents c)) (omega arith))
