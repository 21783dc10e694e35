-- The case of two legal plans is sound: its block gets none of codes 3 to 7 and no 19. Assumes nothing.
use mathlib.Core.Path.{◌≡◌, refl, sym, ◌∙◌, ap, subst}
use mathlib.Core.Logic.{⊎_elim}
use mathlib.Core.Bool.{Bool, true, false, ◌&&◌, ◌||◌, not, cond, false≢true}
use mathlib.Core.List.{List, [], ◌∷◌, ◌++◌}
use Prim.Native.Nat.{ℕ, zero, suc, ◌+◌, ◌*◌, ◌-◌, ◌/◌, ◌%◌, ◌≤◌, ◌<◌}
use native.Mathlib.Omega.{arith}
use native.Mathlib.Decide.{dec_lt}
use lib.Dec.{eqb, ltb, leb}
use lib.ListN.{length, get_or, replicate}
use lib.Seq.{get_or-append-add}
use borrow.Author.Tests.{ltb-true, le-ltb, ltb-false, leb-true, lt-leb}
use Rattle.words.specs.Small.{concat_map, some_below}
use Rattle.words.specs.Refusals.{first_code_of}
use Rattle.words.specs.Sets.{has}
use Rattle.words.proofs.Bools.{decide, and_both, and_left, and_right, or_left, or_false}
use Rattle.words.proofs.Lists.{get_d_mid, concat_map-length, concat_map_at}
use Rattle.words.proofs.Passed.{unpassed}
use Rattle.cases.specs.declared.Slot.{Slot}
use Rattle.cases.specs.declared.Instr.{Instr}
use Rattle.cases.specs.declared.Instr.TheVariants.{Empty, Read, Write, Local, Branch, Goto, Acquire, Release}
use Rattle.cases.specs.Instruction.{instr_bytes, two, field_at, bad_field, is_read}
use Rattle.cases.specs.Block.{within, proc_at, number_at, byte_at, byte, word, marked, no_proc, used, bad3, bad4, zero5, bad5, bad_byte, bad6, bad7, reads_at, is_set, bad19, faults, slot_bytes, contents, Sound}
use Rattle.cases.proofs.Lowest.{no_position}
use Rattle.cases.proofs.Puts.{six-wide}
use Rattle.rules.specs.Building.{slot_of}
use Rattle.handoffs.specs.Plans.{constants, case_for}
use Rattle.handoffs.proofs.Shapes.{Legal, few_long}
use Rattle.handoffs.proofs.Fitting.{codes, codes_long, empty_past, Simple, simple_all}

-- tests that fail
second_fails : (a b d : Bool) → b ≡ false → (a && b && d) ≡ false
second_fails a b d h = and_left (a && b) d (and_right a b h)

module _ (w u v m : Bool) where
  neither_range : w ≡ false → v ≡ false → (((w && not u) || v) && m) ≡ false
  neither_range h k = and_left ((w && not u) || v) m (or_false (w && not u) v (and_left w (not u) h) k)

  used_range : u ≡ true → v ≡ false → (((w && not u) || v) && m) ≡ false
  used_range h k = and_left ((w && not u) || v) m (or_false (w && not u) v (and_right w (not u) (ap not h)) k)

  unmarked : m ≡ false → (((w && not u) || v) && m) ≡ false
  unmarked h = and_right ((w && not u) || v) m h

past_8 : (l : List ℕ) (i : ℕ) → 8 ≤ i → bad4 l i ≡ false
unfolding bad4
past_8 l i h = second_fails (leb 4 i) (ltb i 8) (ltb 12 (byte l i) || (no_proc l (i - 4) && marked l i)) (le-ltb i 8 h)

-- bytes 0 to 91
header : ℕ → ℕ → List ℕ
header m n =
    2 ∷ 5 ∷ 0 ∷ 0 ∷ ((m ∷ n ∷ 0 ∷ 0 ∷ []) ++ ((31 ∷ 31 ∷ 0 ∷ 0 ∷ []) ++ (concat_map two (constants ++ (constants ++ replicate 16 0)) ++ concat_map two (replicate 8 0))))

module _ (m n : ℕ) (rest : List ℕ) where
  no_3 : some_below 510 (bad3 (header m n ++ rest)) ≡ false
  unfolding header some_below bad3
  no_3 = refl

  no_5 : some_below 510 (bad5 (header m n ++ rest)) ≡ false
  unfolding header some_below bad5 zero5
  no_5 = refl

  counts_at : (p : ℕ) → p < 4 → get_or (header m n ++ rest) (4 + p) 0 ≡ get_or (m ∷ n ∷ 0 ∷ 0 ∷ []) p 0
  unfolding header
  counts_at zero h = refl
  counts_at (suc zero) h = refl
  counts_at (suc (suc zero)) h = refl
  counts_at (suc (suc (suc zero))) h = refl
  counts_at (suc (suc (suc (suc p)))) h = absurd (omega arith)

  masks_at : (p : ℕ) → p < 2 → get_or (header m n ++ rest) (8 + p) 0 ≡ 31
  unfolding header
  masks_at zero h = refl
  masks_at (suc zero) h = refl
  masks_at (suc (suc p)) h = absurd (omega arith)

  module _ (few : m ≤ 4) (fewer : n ≤ 4) where
    at_4 : (i : ℕ) → bad4 (header m n ++ rest) i ≡ false
    unfolding header bad4
    at_4 zero = refl
    at_4 (suc zero) = refl
    at_4 (suc (suc zero)) = refl
    at_4 (suc (suc (suc zero))) = refl
    at_4 (suc (suc (suc (suc zero)))) = or_false (ltb 12 m) false (le-ltb 12 m (omega (arith, few))) refl
    at_4 (suc (suc (suc (suc (suc zero))))) = or_false (ltb 12 n) false (le-ltb 12 n (omega (arith, fewer))) refl
    at_4 (suc (suc (suc (suc (suc (suc zero)))))) = refl
    at_4 (suc (suc (suc (suc (suc (suc (suc zero))))))) = refl
    at_4 (suc (suc (suc (suc (suc (suc (suc (suc i)))))))) = past_8 (header m n ++ rest) (suc (suc (suc (suc (suc (suc (suc (suc i)))))))) (omega arith)

    no_4 : some_below 510 (bad4 (header m n ++ rest)) ≡ false
    no_4 = no_position 510 (bad4 (header m n ++ rest)) (λ i h. at_4 i)

-- the byte at place j of an instruction is not bad
abbrev op_of : Instr → ℕ
op_of x = get_or (instr_bytes x) 0 0

abbrev Bad : Instr → ℕ → ℕ → ℕ → Bool
Bad x n w j = cond (eqb j 0) (eqb (op_of x) 0 || ltb 10 (op_of x)) (bad_field (field_at (op_of x) (j - 1)) n (get_or (instr_bytes x) j 0) w)

good_byte : (x : Instr) → Simple x → (n w j : ℕ) → j < 6 → Bad x n w j ≡ false
good_byte Empty h n w j k = absurd h
good_byte (Local d e) h n w j k = absurd h
good_byte (Branch a l) h n w j k = absurd h
good_byte (Goto l) h n w j k = absurd h
good_byte (Read d a) h n w zero k = refl
good_byte (Read d a) h n w (suc zero) k = lt-leb 8 d h.0
good_byte (Read d a) h n w (suc (suc zero)) k = lt-leb 8 a (omega (arith, h.1))
good_byte (Read d a) h n w (suc (suc (suc zero))) k = refl
good_byte (Read d a) h n w (suc (suc (suc (suc zero)))) k = refl
good_byte (Read d a) h n w (suc (suc (suc (suc (suc zero))))) k = refl
good_byte (Read d a) h n w (suc (suc (suc (suc (suc (suc j)))))) k = absurd (omega arith)
good_byte (Write a b) h n w zero k = refl
good_byte (Write a b) h n w (suc zero) k = refl
good_byte (Write a b) h n w (suc (suc zero)) k = lt-leb 8 a (omega (arith, h.0))
good_byte (Write a b) h n w (suc (suc (suc zero))) k = lt-leb 8 b (omega (arith, h.1))
good_byte (Write a b) h n w (suc (suc (suc (suc zero)))) k = refl
good_byte (Write a b) h n w (suc (suc (suc (suc (suc zero))))) k = refl
good_byte (Write a b) h n w (suc (suc (suc (suc (suc (suc j)))))) k = absurd (omega arith)
good_byte (Acquire a) h n w zero k = refl
good_byte (Acquire a) h n w (suc zero) k = refl
good_byte (Acquire a) h n w (suc (suc zero)) k = lt-leb 8 a (omega (arith, h))
good_byte (Acquire a) h n w (suc (suc (suc zero))) k = refl
good_byte (Acquire a) h n w (suc (suc (suc (suc zero)))) k = refl
good_byte (Acquire a) h n w (suc (suc (suc (suc (suc zero))))) k = refl
good_byte (Acquire a) h n w (suc (suc (suc (suc (suc (suc j)))))) k = absurd (omega arith)
good_byte (Release a) h n w zero k = refl
good_byte (Release a) h n w (suc zero) k = refl
good_byte (Release a) h n w (suc (suc zero)) k = lt-leb 8 a (omega (arith, h))
good_byte (Release a) h n w (suc (suc (suc zero))) k = refl
good_byte (Release a) h n w (suc (suc (suc (suc zero)))) k = refl
good_byte (Release a) h n w (suc (suc (suc (suc (suc zero))))) k = refl
good_byte (Release a) h n w (suc (suc (suc (suc (suc (suc j)))))) k = absurd (omega arith)

-- a byte that names a register that is read names one below 5, and those are preset
read_given : (x : Instr) → Simple x → (j : ℕ) → j < 6 → (not (eqb j 0) && is_read (field_at (op_of x) (j - 1))) ≡ true → get_or (instr_bytes x) j 0 < 5
read_given Empty h j k q = absurd h
read_given (Local d e) h j k q = absurd h
read_given (Branch a l) h j k q = absurd h
read_given (Goto l) h j k q = absurd h
read_given (Read d a) h zero k q = absurd (false≢true q)
read_given (Read d a) h (suc zero) k q = absurd (false≢true q)
read_given (Read d a) h (suc (suc zero)) k q = h.1
read_given (Read d a) h (suc (suc (suc zero))) k q = absurd (false≢true q)
read_given (Read d a) h (suc (suc (suc (suc zero)))) k q = absurd (false≢true q)
read_given (Read d a) h (suc (suc (suc (suc (suc zero))))) k q = absurd (false≢true q)
read_given (Read d a) h (suc (suc (suc (suc (suc (suc j)))))) k q = absurd (omega arith)
read_given (Write a b) h zero k q = absurd (false≢true q)
read_given (Write a b) h (suc zero) k q = absurd (false≢true q)
read_given (Write a b) h (suc (suc zero)) k q = h.0
read_given (Write a b) h (suc (suc (suc zero))) k q = h.1
read_given (Write a b) h (suc (suc (suc (suc zero)))) k q = absurd (false≢true q)
read_given (Write a b) h (suc (suc (suc (suc (suc zero))))) k q = absurd (false≢true q)
read_given (Write a b) h (suc (suc (suc (suc (suc (suc j)))))) k q = absurd (omega arith)
read_given (Acquire a) h zero k q = absurd (false≢true q)
read_given (Acquire a) h (suc zero) k q = absurd (false≢true q)
read_given (Acquire a) h (suc (suc zero)) k q = h
read_given (Acquire a) h (suc (suc (suc zero))) k q = absurd (false≢true q)
read_given (Acquire a) h (suc (suc (suc (suc zero)))) k q = absurd (false≢true q)
read_given (Acquire a) h (suc (suc (suc (suc (suc zero))))) k q = absurd (false≢true q)
read_given (Acquire a) h (suc (suc (suc (suc (suc (suc j)))))) k q = absurd (omega arith)
read_given (Release a) h zero k q = absurd (false≢true q)
read_given (Release a) h (suc zero) k q = absurd (false≢true q)
read_given (Release a) h (suc (suc zero)) k q = h
read_given (Release a) h (suc (suc (suc zero))) k q = absurd (false≢true q)
read_given (Release a) h (suc (suc (suc (suc zero)))) k q = absurd (false≢true q)
read_given (Release a) h (suc (suc (suc (suc (suc zero))))) k q = absurd (false≢true q)
read_given (Release a) h (suc (suc (suc (suc (suc (suc j)))))) k q = absurd (omega arith)

given : (r : ℕ) → r < 5 → has 31 r ≡ true
given zero h = refl
given (suc zero) h = refl
given (suc (suc zero)) h = refl
given (suc (suc (suc zero))) h = refl
given (suc (suc (suc (suc zero)))) h = refl
given (suc (suc (suc (suc (suc r))))) h = absurd (omega arith)

two_used : (m n p i : ℕ) → i < get_or (m ∷ n ∷ 0 ∷ 0 ∷ []) p 0 → p < 2
two_used m n zero i h = omega arith
two_used m n (suc zero) i h = omega arith
two_used m n (suc (suc zero)) i h = absurd (omega (arith, h))
two_used m n (suc (suc (suc zero))) i h = absurd (omega (arith, h))
two_used m n (suc (suc (suc (suc p)))) i h = absurd (omega (arith, h))

empty_byte : (j : ℕ) → get_or (instr_bytes Empty) j 0 ≡ 0
empty_byte zero = refl
empty_byte (suc zero) = refl
empty_byte (suc (suc zero)) = refl
empty_byte (suc (suc (suc zero))) = refl
empty_byte (suc (suc (suc (suc zero)))) = refl
empty_byte (suc (suc (suc (suc (suc zero))))) = refl
empty_byte (suc (suc (suc (suc (suc (suc j)))))) = refl

zeros_at : (n i : ℕ) → ◌≡◌ {A = ℕ} (get_or (replicate n 0) i 0) 0
zeros_at zero i = refl
zeros_at (suc n) zero = refl
zeros_at (suc n) (suc i) = zeros_at n i

header_long : (m n : ℕ) → length (header m n) ≡ 92
unfolding header
header_long m n = refl

module _ (s r : List ℕ) (L : Legal s r) where
  abbrev body : List ℕ
  body = concat_map slot_bytes (codes s r L)

  abbrev bytes : List ℕ
  bytes = header (length s) (length r) ++ (body ++ replicate 130 0)

  bytes_are : contents (case_for s r) ≡ bytes
  unfolding contents case_for header
  bytes_are = refl

  body_long : length body ≡ 288
  body_long = omega (arith, concat_map-length slot_bytes 6 six-wide (codes s r L), codes_long s r L)

  slot_at : ℕ → Slot
  slot_at k = get_or (codes s r L) k (slot_of Empty)

  at_slot : (i k j : ℕ) → i ≡ 92 + (6 * k + j) → k < 48 → j < 6 → get_or bytes i 0 ≡ get_or (slot_bytes (slot_at k)) j 0
  unfolding slot_at
  at_slot i k j e h b =
      ap (λ (n : ℕ). get_or bytes n 0) e
      ∙ get_d_mid (header (length s) (length r)) body (replicate 130 0) 92 (header_long (length s) (length r)) (6 * k + j) 0 (omega (arith, body_long, h, b))
      ∙ concat_map_at slot_bytes 6 six-wide (codes s r L) k j (slot_of Empty) 0 (omega (arith, codes_long s r L, h)) b

  at_last : (i : ℕ) → 380 ≤ i → get_or bytes i 0 ≡ 0
  at_last i h =
      let e : i ≡ length (header (length s) (length r)) + (length body + (i - 380)) = omega (arith, header_long (length s) (length r), body_long, h) in
      ap (λ (n : ℕ). get_or bytes n 0) e
      ∙ get_or-append-add (header (length s) (length r)) (body ++ replicate 130 0) (length body + (i - 380)) 0
      ∙ get_or-append-add body (replicate 130 0) (i - 380) 0
      ∙ zeros_at 130 (i - 380)

  -- the place of a byte of an instruction
  module _ (i : ℕ) (from : 92 ≤ i) (to : i < 380) where
    abbrev k : ℕ
    k = (i - 92) / 6

    abbrev j : ℕ
    j = (i - 92) % 6

    count_here : get_or bytes (4 + proc_at i) 0 ≡ get_or (length s ∷ length r ∷ 0 ∷ 0 ∷ []) (proc_at i) 0
    count_here = counts_at (length s) (length r) (body ++ replicate 130 0) (proc_at i) (omega (arith, from, to))

    this : get_or bytes i 0 ≡ get_or (slot_bytes (slot_at k)) j 0
    this = at_slot i k j (omega (arith, from)) (omega (arith, from, to)) (omega arith)

    first : get_or bytes (i - byte_at i) 0 ≡ get_or (slot_bytes (slot_at k)) 0 0
    first = at_slot (i - byte_at i) k 0 (omega (arith, from)) (omega (arith, from, to)) (omega arith)

    slot_is : slot_at k ≡ get_or (codes s r L) (12 * proc_at i + number_at i) (slot_of Empty)
    unfolding slot_at
    slot_is = ap (λ (n : ℕ). get_or (codes s r L) n (slot_of Empty)) (omega (arith, from, to))

    simple_here : used bytes (proc_at i) (number_at i) ≡ true → Simple (slot_at k).instr
    simple_here u = subst (λ (x : Slot). Simple x.instr) (sym slot_is) (simple_all s r L (proc_at i) (number_at i) (omega (arith, from, to)) (omega (arith, count_here, ltb-true (number_at i) (get_or bytes (4 + proc_at i) 0) u)))

    -- a register that is read is preset
    read_set : used bytes (proc_at i) (number_at i) ≡ true → reads_at (byte bytes (i - byte_at i)) i ≡ true → is_set bytes (proc_at i) (byte bytes i) ≡ true
    unfolding reads_at is_set
    read_set u q =
        let reads = (λ t. not (eqb j 0) && is_read (field_at (sym first t) (j - 1))) ∙ q in
        let low : byte bytes i < 5 = omega (arith, this, read_given (slot_at k).instr (simple_here u) j (omega arith) reads) in
        let one_of : proc_at i < 2 = two_used (length s) (length r) (proc_at i) (number_at i) (omega (arith, count_here, ltb-true (number_at i) (get_or bytes (4 + proc_at i) 0) u)) in
        let mask = masks_at (length s) (length r) (body ++ replicate 130 0) (proc_at i) one_of in
        or_left (has (byte bytes (8 + proc_at i)) (byte bytes i)) _ (ap (λ (n : ℕ). has n (byte bytes i)) mask ∙ given (byte bytes i) low)

    used_good : used bytes (proc_at i) (number_at i) ≡ true → bad_byte bytes (byte bytes (i - byte_at i)) (byte bytes (4 + proc_at i)) i ≡ false
    unfolding bad_byte
    used_good u =
        (λ t. cond (eqb j 0) (eqb (first t) 0 || ltb 10 (first t)) (bad_field (field_at (first t) (j - 1)) (byte bytes (4 + proc_at i)) (this t) (word bytes i)))
        ∙ good_byte (slot_at k).instr (simple_here u) (byte bytes (4 + proc_at i)) (word bytes i) j (omega arith)

    unused_zero : used bytes (proc_at i) (number_at i) ≡ false → get_or bytes i 0 ≡ 0
    unused_zero u =
        let empty : slot_at k ≡ slot_of Empty = slot_is ∙ empty_past s r L (proc_at i) (number_at i) (omega (arith, from, to)) (omega (arith, count_here, ltb-false (number_at i) (get_or bytes (4 + proc_at i) 0) u)) (omega (arith, from, to)) in
        this ∙ ap (λ (x : Slot). get_or (slot_bytes x) j 0) empty ∙ empty_byte j

  at_6 : (i : ℕ) → bad6 bytes i ≡ false
  unfolding bad6
  at_6 i = ⊎_elim inside (λ e. and_left _ _ (and_left _ _ e)) (decide (within 92 380 i))
    where
      inside : within 92 380 i ≡ true → (within 92 380 i && used bytes (proc_at i) (number_at i) && bad_byte bytes (byte bytes (i - byte_at i)) (byte bytes (4 + proc_at i)) i) ≡ false
      inside e =
          let w = and_both (leb 92 i) (ltb i 380) e in
          ⊎_elim (λ u. and_right (within 92 380 i && used bytes (proc_at i) (number_at i)) _ (used_good i (leb-true 92 i w.0) (ltb-true i 380 w.1) u)) (λ u. and_left (within 92 380 i && used bytes (proc_at i) (number_at i)) (bad_byte bytes (byte bytes (i - byte_at i)) (byte bytes (4 + proc_at i)) i) (and_right (within 92 380 i) (used bytes (proc_at i) (number_at i)) u)) (decide (used bytes (proc_at i) (number_at i)))

  at_7 : (i : ℕ) → bad7 bytes i ≡ false
  unfolding bad7
  at_7 i = elim (dec_lt i 92) [
    | yes h ↦ neither_range (within 92 380 i) (used bytes (proc_at i) (number_at i)) (within 380 510 i) (marked bytes i) (and_left (leb 92 i) (ltb i 380) (lt-leb 92 i h)) (and_left (leb 380 i) (ltb i 510) (lt-leb 380 i (omega (arith, h))))
    | no h ↦ elim (dec_lt i 380) [
      | yes k ↦
          ⊎_elim (λ u. used_range (within 92 380 i) (used bytes (proc_at i) (number_at i)) (within 380 510 i) (marked bytes i) u (and_left (leb 380 i) (ltb i 510) (lt-leb 380 i k)))
          (λ u. unmarked (within 92 380 i) (used bytes (proc_at i) (number_at i)) (within 380 510 i) (marked bytes i) (ap (λ (n : ℕ). not (eqb n 0)) (unused_zero i (omega (arith, h)) k u)))
          (decide (used bytes (proc_at i) (number_at i)))
      | no k ↦ unmarked (within 92 380 i) (used bytes (proc_at i) (number_at i)) (within 380 510 i) (marked bytes i) (ap (λ (n : ℕ). not (eqb n 0)) (at_last i (omega (arith, k))))
    ]
  ]

  at_19 : (i : ℕ) → bad19 bytes i ≡ false
  unfolding bad19
  at_19 i = ⊎_elim inside (λ e. and_left _ _ (and_left _ _ (and_left _ _ e))) (decide (within 92 380 i))
    where
      inside : within 92 380 i ≡ true → (within 92 380 i && used bytes (proc_at i) (number_at i) && reads_at (byte bytes (i - byte_at i)) i && not (is_set bytes (proc_at i) (byte bytes i))) ≡ false
      inside e =
          let w = and_both (leb 92 i) (ltb i 380) e in
          let here = within 92 380 i && used bytes (proc_at i) (number_at i) in
          let reads = reads_at (byte bytes (i - byte_at i)) i in
          ⊎_elim
          (λ u. ⊎_elim (λ q. and_right (here && reads) _ (ap not (read_set i (leb-true 92 i w.0) (ltb-true i 380 w.1) u q))) (λ q. and_left (here && reads) _ (and_right here reads q)) (decide reads))
          (λ u. and_left (here && reads) _ (and_left here reads (and_right (within 92 380 i) (used bytes (proc_at i) (number_at i)) u)))
          (decide (used bytes (proc_at i) (number_at i)))

  pub case_sound : Sound (case_for s r)
  case_sound =
      ap (λ (l : List ℕ). first_code_of (faults l)) bytes_are
      ∙ unpassed (faults bytes) (
        no_3 (length s) (length r) (body ++ replicate 130 0),
        (
          no_4 (length s) (length r) (body ++ replicate 130 0) (few_long s L.sender) (few_long r L.receiver),
          (
            no_5 (length s) (length r) (body ++ replicate 130 0),
            (no_position 510 (bad6 bytes) (λ i h. at_6 i), (no_position 510 (bad7 bytes) (λ i h. at_7 i), (no_position 510 (bad19 bytes) (λ i h. at_19 i), tt))),
          ),
        ),
      )
