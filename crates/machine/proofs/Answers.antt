-- The bytes of registers by their places, and whether a machine is finished. Assumes nothing.
use mathlib.Core.Path.{◌≡◌, refl, sym, ◌∙◌, ap, subst}
use mathlib.Core.Logic.{⊎_elim}
use mathlib.Core.Bool.{Bool, true, false, not, ◌&&◌, false≢true}
use mathlib.Core.List.{List}
use mathlib.Core.Option.{Option, none, some}
use Prim.Native.Nat.{ℕ, zero, suc, ◌+◌, ◌*◌, ◌/◌, ◌%◌, ◌≤◌, ◌<◌}
use native.Mathlib.Nat.{add-zero}
use native.Mathlib.Omega.{arith}
use native.Mathlib.Decide.{dec_lt}
use lib.Dec.{eqb}
use lib.ListN.{length, get_or, set, length-set}
use lib.Seq.{ext_get_or, get_or-set_other}
use borrow.Author.Tests.{lt-ltb, le-ltb, eqb-true, ne_eqb}
use Rattle.words.specs.Small.{is, counting, concat_map, some_below}
use Rattle.words.proofs.Bools.{decide}
use Rattle.words.proofs.Lists.{filled_more}
use Rattle.cases.specs.declared.Case.{Case}
use Rattle.cases.specs.Case.{count_of}
use Rattle.rules.specs.State.{State, value_of, waiting}
use Rattle.rules.specs.Result.{register_bytes, register_of, registers}
use Rattle.orders.specs.Rows.{SetOf}
use Rattle.machine.specs.Shown.{option_of, place_of}
use Rattle.machine.specs.Kept.{queued}
use Rattle.machine.specs.Lent.{Ending}
use Rattle.machine.proofs.Listing.{blocks_long, block_at}
use Rattle.machine.proofs.Items.{queue_empty}

pub byte_none : (j : ℕ) → j < 3 → 0 ≡ get_or (register_bytes none) j 0
byte_none zero lt = refl
byte_none (suc zero) lt = refl
byte_none (suc (suc zero)) lt = refl
byte_none (suc (suc (suc j))) lt = absurd (omega arith)

width : (o : Option ℕ) → length (register_bytes o) ≡ 3
width none = refl
width (some n) = refl

-- the three bytes of register n stored: no other is touched
module _ (out : List ℕ) (n x y z : ℕ) where
  abbrev three : List ℕ
  three = set (set (set out (3 * n) x) (3 * n + 1) y) (3 * n + 2) z

  pub three_long : length out ≡ 96 → length three ≡ 96
  three_long h = length-set (set (set out (3 * n) x) (3 * n + 1) y) (3 * n + 2) z ∙ length-set (set out (3 * n) x) (3 * n + 1) y ∙ length-set out (3 * n) x ∙ h

  pub three_past : (j : ℕ) → 3 * (n + 1) ≤ j → get_or three j 0 ≡ get_or out j 0
  three_past j h =
      get_or-set_other (set (set out (3 * n) x) (3 * n + 1) y) (3 * n + 2) j z 0 (λ q. omega arith)
      ∙ get_or-set_other (set out (3 * n) x) (3 * n + 1) j y 0 (λ q. omega arith)
      ∙ get_or-set_other out (3 * n) j x 0 (λ q. omega arith)

module _ (c : Case) (s : State) where
  abbrev row : ℕ → List ℕ
  row p = concat_map (λ k. register_bytes (register_of c s p k)) (counting 0 8)

  row_long : (p : ℕ) → length (row p) ≡ 24
  row_long p = blocks_long (λ k. register_bytes (register_of c s p k)) 3 (λ k. width (register_of c s p k)) 8

  pub registers_long : length (registers c s) ≡ 96
  unfolding registers
  registers_long = blocks_long row 24 row_long 4

  register_at_lem : (i : ℕ) → i < 96 → get_or (registers c s) i 0 ≡ get_or (register_bytes (register_of c s (i / 3 / 8) (i / 3 % 8))) (i % 3) 0
  unfolding registers
  register_at_lem i h =
      let q : i ≡ 24 * (i / 3 / 8) + (3 * (i / 3 % 8) + i % 3) = omega arith in
      ap (λ (n : ℕ). get_or (concat_map row (counting 0 4)) n 0) q
      ∙ block_at row 24 row_long 4 (i / 3 / 8) (3 * (i / 3 % 8) + i % 3) (omega arith) (omega arith)
      ∙ block_at (λ k. register_bytes (register_of c s (i / 3 / 8) k)) 3 (λ k. width (register_of c s (i / 3 / 8) k)) 8 (i / 3 % 8) (i % 3) (omega arith) (omega arith)

  -- the bytes of an absent processor
  absent : (i : ℕ) → i < 96 → c.procs ≤ i / 3 / 8 → get_or (registers c s) i 0 ≡ 0
  absent i h p = register_at_lem i h ∙ rw (le-ltb (i / 3 / 8) c.procs p) (sym (byte_none (i % 3) (omega arith)))

  -- the bytes of the first n registers, and zeros
  pub registers_are : (out : List ℕ) (n : ℕ) → length out ≡ 96 → 8 * c.procs ≤ n → ((j : ℕ) → j < 3 * n → get_or out j 0 ≡ get_or (registers c s) j 0) → ((j : ℕ) → 3 * n ≤ j → j < 96 → get_or out j 0 ≡ 0) → out ≡ registers c s
  registers_are out n long all h z = ext_get_or 0 out (registers c s) (long ∙ sym registers_long) (λ i lt. elim (dec_lt i (3 * n)) [ yes k ↦ h i k | no k ↦ z i (omega arith) (omega arith) ∙ sym (absent i (omega arith) (omega arith)) ])

  -- three bytes more, those of register n
  pub three_more : (out : List ℕ) (n x y z : ℕ) (o : Option ℕ) → n < 32 → length out ≡ 96 → o ≡ register_of c s (n / 8) (n % 8) → x ≡ get_or (register_bytes o) 0 0 → y ≡ get_or (register_bytes o) 1 0 → z ≡ get_or (register_bytes o) 2 0
      → ((j : ℕ) → j < 3 * n → get_or out j 0 ≡ get_or (registers c s) j 0) → (j : ℕ) → j < 3 * (n + 1) → get_or (three out n x y z) j 0 ≡ get_or (registers c s) j 0
  three_more out n x y z o low long ho hx hy hz h j l =
      let a = length-set out (3 * n) x ∙ long in
      let b = length-set (set out (3 * n) x) (3 * n + 1) y ∙ a in
      let f = filled_more bytes 0 out (3 * n) x (omega arith) (hx ∙ byte 0 (omega arith) ∙ ap bytes (add-zero (3 * n))) h in
      let g = filled_more bytes 0 (set out (3 * n) x) (3 * n + 1) y (omega arith) (hy ∙ byte 1 (omega arith)) f in
      filled_more bytes 0 (set (set out (3 * n) x) (3 * n + 1) y) (3 * n + 2) z (omega arith) (hz ∙ byte 2 (omega arith)) (λ j l. g j (omega arith)) j (omega arith)
    where
      bytes : ℕ → ℕ
      bytes j = get_or (registers c s) j 0

      at : (j : ℕ) → j < 3 → get_or (register_bytes (register_of c s (n / 8) (n % 8))) j 0 ≡ get_or (registers c s) (3 * n + j) 0
      at j l =
          let q : (3 * n + j) / 3 ≡ n = omega arith in
          let t : (3 * n + j) % 3 ≡ j = omega arith in
          sym (register_at_lem (3 * n + j) (omega arith) ∙ rw (q, t))

      byte : (j : ℕ) → j < 3 → get_or (register_bytes o) j 0 ≡ get_or (registers c s) (3 * n + j) 0
      byte j l = ap (λ (q : Option ℕ). get_or (register_bytes q) j 0) ho ∙ at j l

  pub register-present : (p k : ℕ) → p < c.procs → value_of s (s.names p k) ≡ register_of c s p k
  register-present p k h = rw (lt-ltb p c.procs h)

-- processor p is done: its queue is empty, its place counter at its count
abbrev pub ended : Case → State → ℕ → Bool
ended c s p = not (some_below s.count (λ k. waiting p (s.actions k))) && is (count_of c p) (s.places p)

-- a count that is no counter's mark of being undefined
pub at_count : (n x : ℕ) → n ≤ 12 → eqb x n ≡ is n (place_of x)
at_count n x h = ⊎_elim undefined defined (decide (eqb x 255))
  where
    undefined : eqb x 255 ≡ true → eqb x n ≡ is n (place_of x)
    undefined k = rw k (ne_eqb x n (λ e. omega (arith, eqb-true x 255 k)))

    defined : eqb x 255 ≡ false → eqb x n ≡ is n (place_of x)
    defined k = rw k

-- asked of the set that is its queue, and of both arrays
pub ended_is : (c : Case) (s : State) (counts places : List ℕ) (procs p x : ℕ) → Ending c s counts places procs → SetOf (8 + s.count) (queued s p) x → (eqb x 0 && eqb (get_or places p 0) (get_or counts p 0)) ≡ ended c s p
ended_is c s counts places procs p x e q = λ j. queue_empty s p x q j && there j
  where
    there : eqb (get_or places p 0) (get_or counts p 0) ≡ is (count_of c p) (s.places p)
    there = at_count (get_or counts p 0) (get_or places p 0) (subst (λ (l : List ℕ). get_or l p 0 ≤ 12) e.counted (e.fit.counts p)) ∙ (λ j. is (get_or (sym e.counted j) p 0) (sym e.placed j p))
