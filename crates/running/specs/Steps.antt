-- A step in the words of the arrays. Assumes nothing.
use Rattle.std.specs.Prelude.{Some, Bool, true, ◌&&◌, ◌||◌, cond, List, ℕ, ◌+◌, ◌*◌, ◌%◌, eqb, ltb, leb, length, get_or, set}
use Rattle.std.proofs.Math.Option.{Option, none}
use Rattle.words.specs.Small.{is_none, or_zero, some_below}
use Rattle.cases.specs.declared.Instr.{Instr}
use Rattle.cases.specs.declared.Instr.TheVariants.{Empty, Read, Write, Local, Branch, Goto, Acquire, Release}
use Rattle.rules.specs.Kinds.{reads, kind, accesses, syncs}
use Rattle.rules.specs.Commit.{barred}
use Rattle.machine.specs.Shown.{Value, shown_value, holder_of}
use Rattle.committing.specs.Committed.{branch_to}
use Rattle.boards.specs.declared.Buffering.{Buffering}
use Rattle.boards.specs.Board.{filled}
use Rattle.running.specs.declared.Arrays.{Arrays}
use Rattle.stores.specs.Log.{buffer_of, buffer_by}
use Rattle.running.specs.Shown.{unknown}

-- What register r of processor p holds, where it is there.
abbrev pub operand_by : List Value → ℕ → Bool → ℕ → Option ℕ
operand_by values p there r = cond (there && ltb r 8) (shown_value (get_or values (8 * p + r) unknown)) none

-- What the first register that an instruction reads holds, and the second.
abbrev pub first_by : List Value → ℕ → Instr → Option ℕ
first_by values p i = operand_by values p (ltb 0 (length (reads i))) (get_or (reads i) 0 0)

abbrev pub second_by : List Value → ℕ → Instr → Option ℕ
second_by values p i = operand_by values p (ltb 1 (length (reads i))) (get_or (reads i) 1 0)

-- A register that it reads is undefined.
abbrev pub unready_by : List Value → ℕ → Instr → Bool
unready_by values p i = (ltb 0 (length (reads i)) && is_none (first_by values p i)) || (ltb 1 (length (reads i)) && is_none (second_by values p i))

-- Instruction i of processor p, inside its program, is barred.
abbrev pub bars_by : Buffering → Arrays → ℕ → ℕ → Instr → Bool
bars_by k s locs p i =
    let x = or_zero (first_by s.values p i) in
    unready_by s.values p i
    || (((accesses (kind i) || syncs (kind i)) && leb locs x)
    || (barred p (kind i) (holder_of (get_or s.holders x 0))
    || (syncs (kind i) && some_below locs (λ b. filled (buffer_of k s.log s.logged p b)))))

-- The registers with v in register d of processor p, where d is one.
abbrev pub assign_by : List Value → ℕ → ℕ → ℕ → List Value
assign_by values p d v = cond (ltb d 8) (set values (8 * p + d) (Some v)) values

-- The place after an instruction, whose first register holds x.
abbrev pub follow_by : Instr → ℕ → ℕ → ℕ
follow_by Empty n x = n + 1
follow_by (Read d a) n x = n + 1
follow_by (Write a b) n x = n + 1
follow_by (Local d e) n x = n + 1
follow_by (Branch a l) n x = branch_to x n l
follow_by (Goto l) n x = l % 256
follow_by (Acquire a) n x = n + 1
follow_by (Release a) n x = n + 1

-- The machine after a store of v to location l by processor p.
abbrev pub stored_by : Buffering → Arrays → ℕ → ℕ → ℕ → Arrays
stored_by k s p l v =
    cond (eqb (buffer_by k l) 8)
    (record { places = s.places; values = s.values; holders = s.holders; memory = set s.memory l v; logged = s.logged; log = s.log })
    (record {
      places = s.places;
      values = s.values;
      holders = s.holders;
      memory = s.memory;
      logged = s.logged + 1;
      log = set s.log s.logged (record { proc = p; loc = l; value = v; waits = true });
    })

-- The same where the kind is a write's.
abbrev pub written_by : Buffering → Arrays → ℕ → ℕ → ℕ → ℕ → Arrays
written_by k s q p x y = cond (eqb q 2 && ltb x 8) (stored_by k s p x y) s
