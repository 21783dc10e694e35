-- A case in the making, line by line: the reader's way, which the promises do not speak of. Assumes nothing.
use Rattle.std.specs.Prelude.{Bool, true, false, ◌&&◌, ◌||◌, cond, List, [], ◌∷◌, ◌++◌, ℕ, suc, ◌+◌, ◌*◌, ◌-◌, ◌/◌, ◌%◌, max, ltb, leb}
use Rattle.std.proofs.Math.Option.{Option, none, some}
use Rattle.words.specs.Small.{each, counting, concat_map, or_zero, put}
use Rattle.cases.specs.declared.Expr.{Expr}
use Rattle.cases.specs.declared.Expr.TheVariants.{Constant, Sum, Difference, Equal}
use Rattle.cases.specs.declared.Instr.{Instr}
use Rattle.cases.specs.declared.Instr.TheVariants.{Empty, Read, Write, Local, Branch, Goto, Acquire, Release}
use Rattle.cases.specs.declared.Case.{Case}
use Rattle.texts.specs.Lines.{Line, head, mem, reg, op, mem_line, reg_line}

-- Places are numbered: word l is l, register k of processor p is 8 + (8p + k), instruction i of processor p is 40 + (12p + i).
-- dropped: the usual bound of an old text. next: the first place that may still be filled. need: the highest place that a label of the open processor names.
pub record Draft : Type 0 where
  pub procs : ℕ
  pub locs : ℕ
  pub dropped : Option ℕ
  pub next : ℕ
  pub need : ℕ
  pub words : ℕ → ℕ
  pub presets : ℕ → Option ℕ
  pub counts : ℕ → ℕ
  pub instrs : ℕ → Instr

abbrev pub low : ℕ → Bool
low r = ltb r 8

abbrev pub low_expr : Expr → Bool
low_expr (Constant k) = ltb k 65536
low_expr (Sum a b) = low a && low b
low_expr (Difference a b) = low a && low b
low_expr (Equal a b) = low a && low b

-- Registers are below 8, a constant fits, it is not the empty instruction.
abbrev pub low_instr : Instr → Bool
low_instr Empty = false
low_instr (Read d a) = low d && low a
low_instr (Write a b) = low a && low b
low_instr (Local d e) = low d && low_expr e
low_instr (Branch a l) = low a
low_instr (Goto l) = true
low_instr (Acquire a) = low a
low_instr (Release a) = low a

-- The label of an instruction, 0 where it has none.
abbrev pub label_of : Instr → ℕ
label_of Empty = 0
label_of (Read d a) = 0
label_of (Write a b) = 0
label_of (Local d e) = 0
label_of (Branch a l) = l
label_of (Goto l) = l
label_of (Acquire a) = 0
label_of (Release a) = 0

-- The first place of processor p.
abbrev pub from : ℕ → ℕ
from p = 40 + 12 * p

abbrev pub fresh : ℕ → ℕ → Option ℕ → Draft
fresh p m b = record { procs = p; locs = m; dropped = b; next = 0; need = 0; words = λ l. 0; presets = λ n. none; counts = λ p. 0; instrs = λ n. Empty }

module _ (d : Draft) where
  abbrev pub with_mem : ℕ → ℕ → Draft
  with_mem l v = record { procs = d.procs; locs = d.locs; dropped = d.dropped; next = suc l; need = d.need; words = put d.words l v; presets = d.presets; counts = d.counts; instrs = d.instrs }

  abbrev pub with_reg : ℕ → ℕ → Draft
  with_reg n v = record { procs = d.procs; locs = d.locs; dropped = d.dropped; next = suc (8 + n); need = d.need; words = d.words; presets = put d.presets n (some v); counts = d.counts; instrs = d.instrs }

  -- instruction i of processor p
  abbrev pub with_op : ℕ → ℕ → Instr → Draft
  with_op p i x = record { procs = d.procs; locs = d.locs; dropped = d.dropped; next = suc (from p + i); need = max d.need (from p + label_of x); words = d.words; presets = d.presets; counts = put d.counts p (suc i); instrs = put d.instrs (12 * p + i) x }

  abbrev pub mem_ok : ℕ → ℕ → Bool
  mem_ok l v = leb d.next l && ltb l d.locs && ltb 0 v && ltb v 65536

  abbrev pub reg_ok : ℕ → ℕ → ℕ → Bool
  reg_ok p k v = leb d.next (8 + (8 * p + k)) && ltb p d.procs && ltb k 8 && ltb v 65536

  -- The first line of a processor closes the one before it, whose labels must by then be reached.
  abbrev pub op_ok : ℕ → ℕ → Instr → Bool
  op_ok p i x = ltb p d.procs && ltb i 12 && low_instr x && leb (label_of x) 12 && (ltb 0 i || leb d.need d.next)

  abbrev pub step : Line → Option Draft
  step (head p m b) = none
  step (mem l v) = cond (mem_ok l v) (some (with_mem l v)) none
  step (reg p k v) = cond (reg_ok p k v) (some (with_reg (8 * p + k) v)) none
  step (op p x) = cond (op_ok p (d.next - from p) x) (some (with_op p (d.next - from p) x)) none

abbrev pub and_then : {A B : Type 0} → Option A → (A → Option B) → Option B
and_then none f = none
and_then (some a) f = f a

-- Further lines.
unfoldable pub run : Draft → List Line → Option Draft
run d [] = some d
run d (l ∷ ls) = and_then (step d l) (λ e. run e ls)

abbrev pub head_ok : ℕ → ℕ → Option ℕ → Bool
head_ok p m b = ltb 0 p && ltb p 5 && ltb 0 m && ltb m 9 && leb (or_zero b) 96

-- The first line.
abbrev pub begin : Line → Option Draft
begin (head p m b) = cond (head_ok p m b) (some (fresh p m b)) none
begin (mem l v) = none
begin (reg p k v) = none
begin (op p x) = none

-- The case of a draft.
abbrev pub marks : Option ℕ → ℕ
marks none = 0
marks (some v) = 1

abbrev pub bit_at : (ℕ → Option ℕ) → ℕ → ℕ
bit_at f n = marks (f n)

abbrev pub mask_of : (ℕ → Option ℕ) → ℕ → ℕ
mask_of f n = bit_at f n + (2 * bit_at f (n + 1) + (4 * bit_at f (n + 2) + (8 * bit_at f (n + 3) + (16 * bit_at f (n + 4) + (32 * bit_at f (n + 5) + (64 * bit_at f (n + 6) + 128 * bit_at f (n + 7)))))))

unfoldable pub case_from : Draft → Case
case_from d =
    record {
      procs = d.procs;
      locs = d.locs;
      counts = each 4 d.counts;
      masks = each 4 (λ p. mask_of d.presets (8 * p));
      presets = each 32 (λ n. or_zero (d.presets n));
      memory = each 8 d.words;
      code = each 48 (λ n. record { instr = d.instrs n });
    }

-- The lines behind the first of a draft.
abbrev pub mem_at : Draft → ℕ → List Line
mem_at d l = mem_line l (d.words l)

abbrev pub reg_at : Draft → ℕ → List Line
reg_at d n = reg_line (n / 8) (n % 8) (d.presets n)

abbrev pub op_at : Draft → ℕ → List Line
op_at d p = each (d.counts p) (λ i. op p (d.instrs (12 * p + i)))

abbrev pub draft_lines : Draft → List Line
draft_lines d = concat_map (mem_at d) (counting 0 8) ++ (concat_map (reg_at d) (counting 0 32) ++ concat_map (op_at d) (counting 0 4))
