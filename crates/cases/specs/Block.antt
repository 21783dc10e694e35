-- The case block: which bytes are bad for which code, the case it holds, the block that holds a case. Assumes nothing.
use Rattle.std.specs.Prelude.{◌≡◌, Bool, false, ◌&&◌, ◌||◌, not, cond, List, [], ◌∷◌, ◌++◌, ℕ, zero, suc, ◌+◌, ◌*◌, ◌-◌, ◌/◌, ◌%◌, eqb, ltb, leb, length, get_or, set, take, replicate}
use Rattle.words.specs.Small.{each, some_below, concat_map}
use Rattle.words.specs.Refusals.{Refusal, ◌when◌, first_code_of}
use Rattle.words.specs.Sets.{has}
use Rattle.cases.specs.declared.Slot.{Slot}
use Rattle.cases.specs.declared.Case.{Case}
use Rattle.cases.specs.declared.CaseRead.{CaseRead}
use Rattle.cases.specs.declared.Fault.{Fault}
use Rattle.cases.specs.declared.Instr.TheVariants.{Empty}
use Rattle.cases.specs.Instruction.{field_at, bad_field, is_assigned, is_read, instr_of, instr_bytes, two}

-- Position i is one of from, from + 1, .., to - 1.
abbrev pub within : ℕ → ℕ → ℕ → Bool
within from to i = leb from i && ltb i to

-- The processor whose instructions position i belongs to.
abbrev pub proc_at : ℕ → ℕ
proc_at i = (i - 92) / 72

-- The number of the instruction there.
abbrev pub number_at : ℕ → ℕ
number_at i = (i - 92) % 72 / 6

-- Which of its six bytes stands there.
abbrev pub byte_at : ℕ → ℕ
byte_at i = (i - 92) % 6

-- The byte at position i, of a slot with this op, names a register that the instruction reads.
unfoldable pub reads_at : ℕ → ℕ → Bool
reads_at op i = not (eqb (byte_at i) 0) && is_read (field_at op (byte_at i - 1))

-- The least number below n with the test, n where there is none.
unfoldable pub lowest : ℕ → (ℕ → Bool) → ℕ
lowest zero f = 0
lowest (suc n) f = cond (f 0) 0 (suc (lowest n (λ i. f (suc i))))

module _ (s : List ℕ) where
  -- The byte at position i.
  abbrev pub byte : ℕ → ℕ
  byte i = get_or s i 0

  -- The two-byte number at position i.
  abbrev pub word : ℕ → ℕ
  word i = byte i + 256 * byte (i + 1)

  -- The byte at position i is not zero.
  abbrev pub marked : ℕ → Bool
  marked i = not (eqb (byte i) 0)

  -- The sum over the first n bytes of (position + 1) times byte.
  unfoldable pub weighted : ℕ → ℕ
  weighted zero = 0
  weighted (suc n) = weighted n + suc n * byte n

  -- The check that bytes 0 to 509 ask for.
  abbrev pub check : ℕ
  check = weighted 510 % 65521

  -- Processor p is absent.
  abbrev pub no_proc : ℕ → Bool
  no_proc p = leb (byte 0) p

  -- Location l is absent.
  abbrev pub no_loc : ℕ → Bool
  no_loc l = leb (byte 1) l

  -- Instruction n of processor p is used.
  abbrev pub used : ℕ → ℕ → Bool
  used p n = ltb n (byte (4 + p))

  -- Code 3: bytes 0 to 3.
  unfoldable pub bad3 : ℕ → Bool
  bad3 i =
      (eqb i 0 && (eqb (byte 0) 0 || ltb 4 (byte 0)))
      || (eqb i 1 && (eqb (byte 1) 0 || ltb 8 (byte 1)))
      || (eqb i 2 && ltb 96 (byte 2))
      || (eqb i 3 && marked 3)

  -- Code 4: counts over 12, or set for an absent processor.
  unfoldable pub bad4 : ℕ → Bool
  bad4 i = within 4 8 i && (ltb 12 (byte i) || (no_proc (i - 4) && marked i))

  -- A byte of 8..91 that must be zero: a mask or a preset of an absent processor, an unset preset, the word of an absent location.
  unfoldable pub zero5 : ℕ → Bool
  zero5 i =
      (within 8 12 i && no_proc (i - 8))
      || (within 12 76 i && (no_proc ((i - 12) / 16) || not (has (byte (8 + (i - 12) / 16)) ((i - 12) / 2 % 8))))
      || (within 76 92 i && no_loc ((i - 76) / 2))

  -- Code 5: such a byte that is not.
  unfoldable pub bad5 : ℕ → Bool
  bad5 i = zero5 i && marked i

  -- The byte at position i of a slot with this op, of a processor with n instructions, is bad.
  unfoldable pub bad_byte : ℕ → ℕ → ℕ → Bool
  bad_byte op n i =
      cond (eqb (byte_at i) 0) (eqb op 0 || ltb 10 op)
      (bad_field (field_at op (byte_at i - 1)) n (byte i) (word i))

  -- Code 6: a used instruction with a bad op, register, label or unused field.
  unfoldable pub bad6 : ℕ → Bool
  bad6 i = within 92 380 i && used (proc_at i) (number_at i) && bad_byte (byte (i - byte_at i)) (byte (4 + proc_at i)) i

  -- Code 7: a byte that must be zero in unused slots or 380..509.
  unfoldable pub bad7 : ℕ → Bool
  bad7 i = ((within 92 380 i && not (used (proc_at i) (number_at i))) || within 380 510 i) && marked i

  -- Instruction n of processor p is used and assigns register r.
  unfoldable pub assigns_at : ℕ → ℕ → ℕ → Bool
  assigns_at p n r = used p n && is_assigned (field_at (byte (92 + 72 * p + 6 * n)) 0) && eqb (byte (93 + 72 * p + 6 * n)) r

  -- Register r of processor p is set: a preset gives it, or a used instruction of the processor assigns it, wherever that stands.
  unfoldable pub is_set : ℕ → ℕ → Bool
  is_set p r = has (byte (8 + p)) r || some_below 12 (λ n. assigns_at p n r)

  -- Code 19: a used instruction reads a register of its processor that nobody sets.
  unfoldable pub bad19 : ℕ → Bool
  bad19 i =
      within 92 380 i && used (proc_at i) (number_at i) && reads_at (byte (i - byte_at i)) i && not (is_set (proc_at i) (byte i))

  -- Codes 3 to 7 and 19, each with its bytes.
  abbrev pub faults : List Refusal
  faults =
      3 when some_below 510 bad3
      ∷ 4 when some_below 510 bad4
      ∷ 5 when some_below 510 bad5
      ∷ 6 when some_below 510 bad6
      ∷ 7 when some_below 510 bad7
      ∷ 19 when some_below 510 bad19
      ∷ []

  -- Codes 1 to 7 and 19 of a block.
  abbrev pub refusals : List Refusal
  refusals = 1 when not (eqb (length s) 512) ∷ 2 when not (eqb (word 510) check) ∷ faults

  -- Position i is bad for a code. Of a bad label it is the constant's low byte.
  unfoldable pub bad : ℕ → ℕ → Bool
  bad code i = get_or (false ∷ false ∷ false ∷ bad3 i ∷ bad4 i ∷ bad5 i ∷ bad6 i ∷ bad7 i ∷ []) code (eqb code 19 && bad19 i)

  -- The position that a code carries: with 3 to 7 and 19 the lowest that is bad for it; 1, 2 and no code carry 0.
  unfoldable pub position_of : ℕ → ℕ
  position_of code = cond (ltb code 3) 0 (lowest 510 (bad code))

  -- A code with its position.
  abbrev pub fault_of : ℕ → Fault
  fault_of code = record { code = code; position = position_of code }

  -- The instruction in slot n.
  abbrev pub slot_at : ℕ → Slot
  slot_at n =
      let i = 92 + 6 * n in
      record { instr = instr_of (byte i) (byte (i + 1)) (byte (i + 2)) (byte (i + 3)) (word (i + 4)) }

  -- The case that the block holds.
  unfoldable pub case_of : Case
  case_of =
      record {
        procs = byte 0;
        locs = byte 1;
        counts = each 4 (λ p. byte (4 + p));
        masks = each 4 (λ p. byte (8 + p));
        presets = each 32 (λ n. word (12 + 2 * n));
        memory = each 8 (λ l. word (76 + 2 * l));
        code = each 48 slot_at;
      }

-- The refused case: one processor, one location and nothing else.
abbrev pub nothing : Case
nothing =
    record {
      procs = 1;
      locs = 1;
      counts = replicate 4 0;
      masks = replicate 4 0;
      presets = replicate 32 0;
      memory = replicate 8 0;
      code = replicate 48 (record { instr = Empty });
    }

-- The case that comes with a code: the block's own, or the refused one.
abbrev pub case_with : ℕ → Case → Case
case_with zero c = c
case_with (suc n) c = nothing

-- What reading answers: the first code that applies, its position, whether an accepted block has a usual bound, which is dropped, and the case.
unfoldable pub read_of : List ℕ → CaseRead
read_of s =
    let code = first_code_of (refusals s) in
    record { code = code; position = position_of s code; usual = eqb code 0 && marked s 2; case = case_with code (case_of s) }

-- The six bytes of a slot.
abbrev pub slot_bytes : Slot → List ℕ
slot_bytes slot = instr_bytes slot.instr

-- Bytes 0 to 509 of the block that holds a case, in their order; byte 2 is 0.
unfoldable pub contents : Case → List ℕ
contents c =
    c.procs
    ∷ c.locs
    ∷ 0
    ∷ 0
    ∷ (c.counts
    ++ (c.masks
    ++ (concat_map two c.presets
    ++ (concat_map two c.memory ++ (concat_map slot_bytes c.code ++ replicate 130 0)))))

-- The block that holds a case, check included.
unfoldable pub block_of : Case → List ℕ
block_of c = contents c ++ two (check (contents c))

-- A case is sound if it gets none of 3 to 7 and no 19.
abbrev pub Sound : Case → Type 0
Sound c = first_code_of (faults (contents c)) ≡ 0

-- The code of bytes to be sealed: 1 on their length, then 3 to 7 and 19.
unfoldable pub seal_code : List ℕ → ℕ
seal_code s = first_code_of (1 when not (eqb (length s) 512) ∷ faults s)

-- The bytes with 0 in byte 2: no usual bound is written.
abbrev pub unbounded : List ℕ → List ℕ
unbounded s = set s 2 0

-- What sealing answers: the code and its position; and what the bytes then are: the first 510 without usual bound, with their check, or all zeros.
abbrev pub seal_fault : List ℕ → Fault
seal_fault s = fault_of s (seal_code s)

unfoldable pub sealed : List ℕ → List ℕ
sealed s = cond (eqb (seal_code s) 0) (take 510 (unbounded s) ++ two (check (unbounded s))) (replicate (length s) 0)

-- The code of a case to be written into a buffer of a size: 1 on the buffer, then 3 to 7 and 19 on the bytes that the case would have.
unfoldable pub write_code : Case → ℕ → ℕ
write_code c size = first_code_of (1 when not (eqb size 512) ∷ faults (contents c))

-- What writing answers: the code and the position in those bytes; and what the buffer then holds.
abbrev pub write_fault : Case → ℕ → Fault
write_fault c size = fault_of (contents c) (write_code c size)

unfoldable pub written : Case → ℕ → List ℕ
written c size = cond (eqb (write_code c size) 0) (block_of c) (replicate size 0)
