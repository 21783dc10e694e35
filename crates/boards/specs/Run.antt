-- Request 07: running the next instruction of a processor. Assumes nothing.
use Rattle.std.specs.Prelude.{Bool, ◌&&◌, ◌||◌, cond, List, [], ◌∷◌, ◌++◌, map, ℕ, suc, eqb, leb, get_or}
use Rattle.std.proofs.Math.Option.{Option, none, some}
use Rattle.words.specs.Small.{is_none, or_zero, any, put, some_below}
use Rattle.cases.specs.declared.Instr.{Instr}
use Rattle.cases.specs.declared.Instr.TheVariants.{Empty, Read, Write, Local, Branch, Goto, Acquire, Release}
use Rattle.cases.specs.declared.Case.{Case}
use Rattle.cases.specs.Case.{count_of, instr_at}
use Rattle.rules.specs.Kinds.{kind, writing, acquiring, accesses, syncs, reads, assigns, evaluate}
use Rattle.rules.specs.Commit.{barred}
use Rattle.boards.specs.declared.Buffering.{Buffering}
use Rattle.boards.specs.Board.{slot, Store, Board, filled, seen}

-- Memory after store x, which enters the buffer of this number.
abbrev pub in_memory : Option ℕ → (ℕ → ℕ) → Store → ℕ → ℕ
in_memory none m x = put m x.loc x.value
in_memory (some b) m x = m

-- A processor's buffers after it.
abbrev pub in_buffer : {A : Type 0} → Option ℕ → (ℕ → List A) → A → ℕ → List A
in_buffer none bs x = bs
in_buffer (some b) bs x = put bs b (bs b ++ (x ∷ []))

-- A processor's registers with v in the one that is assigned.
abbrev pub assigned : (ℕ → Option ℕ) → Option ℕ → Option ℕ → ℕ → Option ℕ
assigned f none v = f
assigned f (some d) v = put f d v

module _ (k : Buffering) (c : Case) (s : Board) (p : ℕ) where
  abbrev pub at : ℕ
  at = s.places p

  -- The next instruction.
  abbrev pub instruction : Instr
  instruction = instr_at c p at

  -- What the registers that it reads hold, an address first.
  abbrev pub operands_of : List (Option ℕ)
  operands_of = map (s.values p) (reads instruction)

  abbrev pub operand : ℕ → ℕ
  operand n = or_zero (get_or operands_of n none)

  -- A buffer of the processor holds a store.
  abbrev pub holding : Bool
  holding = some_below c.locs (λ b. filled (s.buffers p b))

  -- 'Acquire and release need that processor's buffers empty; undefined registers, addresses not below M, a place at its end and locks bar
  -- an instruction as in 01.'
  unfoldable pub bars : List Bool
  bars =
      leb c.procs p
      ∷ leb (count_of c p) at
      ∷ any is_none operands_of
      ∷ ((accesses (kind instruction) || syncs (kind instruction)) && leb c.locs (operand 0))
      ∷ barred p (kind instruction) (s.holders (operand 0))
      ∷ (syncs (kind instruction) && holding)
      ∷ []

  -- The place after it.
  abbrev pub follows : Instr → ℕ
  follows Empty = suc at
  follows (Read d a) = suc at
  follows (Write a b) = suc at
  follows (Local d e) = suc at
  follows (Branch a l) = cond (eqb (operand 0) 0) (suc at) l
  follows (Goto l) = l
  follows (Acquire a) = suc at
  follows (Release a) = suc at

  -- The value that is read, written or computed; else what is not looked at.
  abbrev pub yields : Instr → ℕ
  yields Empty = 0
  yields (Read d a) = seen k s p (operand 0)
  yields (Write a b) = operand 1
  yields (Local d e) = evaluate e (operand 0) (operand 1)
  yields (Branch a l) = 0
  yields (Goto l) = 0
  yields (Acquire a) = operand 0
  yields (Release a) = operand 0

  -- The store of a write.
  abbrev pub new_store : Store
  new_store = record { loc = operand 0; value = operand 1 }

  unfoldable pub ran : Board
  ran =
      let i = kind instruction in
      record {
        places = put s.places p (follows instruction);
        values = put s.values p (assigned (s.values p) (assigns instruction) (some (yields instruction)));
        holders = cond (syncs i) (put s.holders (operand 0) (cond (acquiring i) (some p) none)) s.holders;
        memory = cond (writing i) (in_memory (slot k (operand 0)) s.memory new_store) s.memory;
        buffers = cond (writing i) (put s.buffers p (in_buffer (slot k (operand 0)) (s.buffers p) new_store)) s.buffers;
      }
