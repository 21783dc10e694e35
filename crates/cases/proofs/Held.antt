-- The bytes of the case that a sound block without usual bound holds are the block's own. Assumes nothing.
use mathlib.Core.Path.{◌≡◌, refl, ap, sym, ◌∙◌}
use mathlib.Core.Logic.{⊎_elim}
use mathlib.Core.Bool.{true, false, ◌&&◌, ◌||◌, not}
use mathlib.Core.List.{List, [], ◌∷◌, ◌++◌, append_assoc, append-nil}
use Prim.Native.Nat.{ℕ, zero, suc, ◌+◌, ◌*◌, ◌-◌, ◌/◌, ◌%◌, ◌<◌, ◌≤◌}
use native.Mathlib.Nat.{add-zero, mul-suc, mul-zero}
use native.Mathlib.Omega.{arith}
use lib.Dec.{eqb, ltb, leb, lit<}
use lib.ListN.{length, get_or, take, replicate, get_or-replicate}
use lib.Seq.{take-suc}
use borrow.Author.Tests.{ne_eqb, lt-ltb, le-leb, eqb-true, eqb-false, ltb-false, not-false}
use Rattle.words.specs.Small.{each, concat_map}
use Rattle.words.specs.Refusals.{first_code_of}
use Rattle.words.proofs.Bools.{decide, and_make, and_rest, or_none, or_left, or_right, none_below}
use Rattle.words.proofs.First.{first_none, not_yes}
use Rattle.words.proofs.Lists.{each_is, each_more, concat_map-append}
use Rattle.cases.specs.declared.Instr.{Instr}
use Rattle.cases.specs.Instruction.{two, instr_of, instr_bytes, field_at, bad_field, is_read}
use Rattle.cases.specs.Block.{within, proc_at, number_at, byte_at, byte, word, marked, used, bad3, bad4, bad_byte, bad6, bad7, is_set, reads_at, bad19, faults, slot_at, slot_bytes, case_of, contents}
use Rattle.cases.specs.Formed.{Bytes}
use Rattle.cases.proofs.Fields.{op_byte, field_byte}
use Rattle.cases.proofs.Slots.{two_of_lem, bytes_back}

-- no position is bad for a code
pub record Clean (s : List ℕ) : Type 0 where
  pub third : (i : ℕ) → i < 510 → bad3 s i ≡ false
  pub fourth : (i : ℕ) → i < 510 → bad4 s i ≡ false
  pub sixth : (i : ℕ) → i < 510 → bad6 s i ≡ false
  pub seventh : (i : ℕ) → i < 510 → bad7 s i ≡ false
  pub nineteenth : (i : ℕ) → i < 510 → bad19 s i ≡ false

pub clean : (s : List ℕ) → first_code_of (faults s) ≡ 0 → Clean s
clean s h =
    let a = first_none 2 _ _ h in
    let b = first_none 3 _ _ a.1 in
    let c = first_none 4 _ _ b.1 in
    let d = first_none 5 _ _ c.1 in
    let e = first_none 6 _ _ d.1 in
    let f = first_none 18 _ _ e.1 in
    record { third = none_below 510 (bad3 s) a.0; fourth = none_below 510 (bad4 s) b.0; sixth = none_below 510 (bad6 s) d.0; seventh = none_below 510 (bad7 s) e.0; nineteenth = none_below 510 (bad19 s) f.0 }

-- at most four processors
pub few_procs : (s : List ℕ) → Clean s → byte s 0 ≤ 4
unfolding bad3
few_procs s ok =
    let bad = eqb (byte s 0) 0 || ltb 4 (byte s 0) in
    let h = (or_none bad false (or_none (bad || false) false (or_none (bad || false || false) false (ok.third 0 (lit< tt))).0).0).0 in
    ltb-false 4 (byte s 0) (or_none (eqb (byte s 0) 0) (ltb 4 (byte s 0)) h).1

-- byte 2 is not over 96
pub few_second : (s : List ℕ) → Clean s → ltb 96 (byte s 2) ≡ false
unfolding bad3
few_second s ok = (or_none (ltb 96 (byte s 2)) false (ok.third 2 (lit< tt))).0

-- the slots of a block that is sound
module _ (s : List ℕ) (ok : Clean s) where
  module _ (m : ℕ) (h : m < 48) where
    abbrev pub at : ℕ → ℕ
    at j = 92 + 6 * m + j

    -- where byte j of slot m stands
    place : (j : ℕ) → j < 6 → (proc_at (at j) ≡ m / 12) × (number_at (at j) ≡ m % 12) × (byte_at (at j) ≡ j)
    place j b = (omega arith, omega arith, omega arith)

    inside : (j : ℕ) → j < 6 → within 92 380 (at j) ≡ true
    inside j b = and_make (leb 92 (at j)) (ltb (at j) 380) (le-leb 92 (at j) (omega arith)) (lt-ltb (at j) 380 (omega arith))

    used_at : (j : ℕ) → j < 6 → used s (proc_at (at j)) (number_at (at j)) ≡ used s (m / 12) (m % 12)
    used_at j b = let p = place j b in λ t. used s (p.0 t) (p.1 t)

    -- unused: every byte is zero

    pub unused_zero : used s (m / 12) (m % 12) ≡ false → (j : ℕ) → j < 6 → byte s (at j) ≡ 0
    unfolding bad7
    unused_zero u j b =
        let free = or_left (within 92 380 (at j) && not (used s (proc_at (at j)) (number_at (at j)))) (within 380 510 (at j)) (and_make (within 92 380 (at j)) (not (used s (proc_at (at j)) (number_at (at j)))) (inside j b) (not_yes _ (used_at j b ∙ u))) in
        eqb-true (byte s (at j)) 0 (not-false _ (and_rest _ (marked s (at j)) (ok.seventh (at j) (omega arith)) free))

    -- used: no byte is bad

    used_good : used s (m / 12) (m % 12) ≡ true → (j : ℕ) → j < 6 → bad_byte s (byte s (at 0)) (byte s (4 + m / 12)) (at j) ≡ false
    unfolding bad6
    used_good u j b =
        let q : at j - byte_at (at j) ≡ at 0 = omega arith in
        let p = (place j b).0 in
        (λ t. bad_byte s (byte s (sym q t)) (byte s (4 + sym p t)) (at j))
        ∙ and_rest (within 92 380 (at j) && used s (proc_at (at j)) (number_at (at j))) _ (ok.sixth (at j) (omega arith)) (and_make (within 92 380 (at j)) (used s (proc_at (at j)) (number_at (at j))) (inside j b) (used_at j b ∙ u))

    pub used_op : used s (m / 12) (m % 12) ≡ true → (0 < byte s (at 0)) × (byte s (at 0) < 11)
    used_op u =
        let n = byte s (4 + m / 12) in
        let o = or_none (eqb (byte s (at 0)) 0) (ltb 10 (byte s (at 0))) (op_byte s (byte s (at 0)) n (at 0) (omega arith) ∙ used_good u 0 (lit< tt)) in
        (omega (arith, eqb-false (byte s (at 0)) 0 o.0), omega (arith, ltb-false 10 (byte s (at 0)) o.1))

    used_field : used s (m / 12) (m % 12) ≡ true → (k : ℕ) → k < 5 → bad_field (field_at (byte s (at 0)) k) (byte s (4 + m / 12)) (byte s (at (suc k))) (word s (at (suc k))) ≡ false
    used_field u k b =
        let op = byte s (at 0) in
        let n = byte s (4 + m / 12) in
        let q : (at (suc k) - 92) % 6 - 1 ≡ k = omega arith in
        ap (λ (j : ℕ). bad_field (field_at op j) n (byte s (at (suc k))) (word s (at (suc k)))) (sym q)
        ∙ field_byte s op n (at (suc k)) (λ z. absurd (omega arith))
        ∙ used_good u (suc k) (omega arith)

    pub used_fields : used s (m / 12) (m % 12) ≡ true → (k : ℕ) → k < 5 → bad_field (field_at (byte s (at 0)) k) (byte s (4 + m / 12)) (get_or (byte s (at 1) ∷ byte s (at 2) ∷ byte s (at 3) ∷ byte s (at 4) ∷ byte s (at 5) ∷ []) k 0) (word s (at (suc k))) ≡ false
    used_fields u zero b = used_field u 0 b
    used_fields u (suc zero) b = used_field u 1 b
    used_fields u (suc (suc zero)) b = used_field u 2 b
    used_fields u (suc (suc (suc zero))) b = used_field u 3 b
    used_fields u (suc (suc (suc (suc zero)))) b = used_field u 4 b
    used_fields u (suc (suc (suc (suc (suc k))))) b = absurd (omega arith)

    -- a register that it reads is set

    pub read_set : used s (m / 12) (m % 12) ≡ true → (k : ℕ) → k < 5 → is_read (field_at (byte s (at 0)) k) ≡ true → is_set s (m / 12) (byte s (at (suc k))) ≡ true
    unfolding bad19 reads_at
    read_set u k b r =
        let i = at (suc k) in
        let op = byte s (i - byte_at i) in
        let q : i - byte_at i ≡ at 0 = omega arith in
        let z : (i - 92) % 6 - 1 ≡ k = omega arith in
        let after : eqb (byte_at i) 0 ≡ false = ne_eqb (byte_at i) 0 (λ e. absurd (omega arith)) in
        let reads : reads_at op i ≡ true = and_make (not (eqb (byte_at i) 0)) (is_read (field_at op (byte_at i - 1))) (not_yes _ after) ((λ t. is_read (field_at (byte s (q t)) (z t))) ∙ r) in
        let used_here = and_make (within 92 380 i) (used s (proc_at i) (number_at i)) (inside (suc k) (omega arith)) (used_at (suc k) (omega arith) ∙ u) in
        let unset = and_rest (within 92 380 i && used s (proc_at i) (number_at i) && reads_at op i) (not (is_set s (proc_at i) (byte s i))) (ok.nineteenth i (omega arith)) (and_make (within 92 380 i && used s (proc_at i) (number_at i)) (reads_at op i) used_here reads) in
        ap (λ (p : ℕ). is_set s p (byte s i)) (sym (place (suc k) (omega arith)).0) ∙ not-false (is_set s (proc_at i) (byte s i)) unset

    -- the instruction in the slot has the slot's bytes

    abbrev pub held : Instr
    held = instr_of (byte s (at 0)) (byte s (at 1)) (byte s (at 2)) (byte s (at 3)) (byte s (at 4) + 256 * byte s (at 5))

    pub held_is : (slot_at s m).instr ≡ held
    held_is =
        let p : 92 + 6 * m ≡ at 0 = omega arith in
        let q : 92 + 6 * m + 4 + 1 ≡ at 5 = omega arith in
        λ t. instr_of (byte s (p t)) (byte s (at 1)) (byte s (at 2)) (byte s (at 3)) (byte s (at 4) + 256 * byte s (q t))

-- parts of a list, taken from the front on

take_more : (s : List ℕ) (k : ℕ) → k < length s → take (k + 1) s ≡ take k s ++ (byte s k ∷ [])
take_more s k h = let q : k + 1 ≡ suc k = omega arith in ap (λ (n : ℕ). take n s) q ∙ take-suc s k 0 h

take_each : (s : List ℕ) (k n : ℕ) → k + n ≤ length s → take (k + n) s ≡ take k s ++ each n (λ i. byte s (k + i))
take_each s k zero h = ap (λ (n : ℕ). take n s) (add-zero k) ∙ sym (append-nil (take k s))
take_each s k (suc n) h =
    let q : k + suc n ≡ k + n + 1 = omega arith in
    ap (λ (n : ℕ). take n s) q
    ∙ take_more s (k + n) (omega arith)
    ∙ ap (λ (l : List ℕ). l ++ (byte s (k + n) ∷ [])) (take_each s k n (omega arith))
    ∙ append_assoc (take k s) (each n (λ i. byte s (k + i))) (byte s (k + n) ∷ [])
    ∙ ap (λ (l : List ℕ). take k s ++ l) (sym (each_more (λ i. byte s (k + i)) n))

module _ {A : Type 0} (f : A → List ℕ) (m : ℕ) (g : ℕ → A) (s : List ℕ) (k : ℕ) where
  take-parts : (n : ℕ) → ((j : ℕ) → j < n → take (k + m * j + m) s ≡ take (k + m * j) s ++ f (g j)) → take (k + m * n) s ≡ take k s ++ concat_map f (each n g)
  take-parts zero h = let q : k + m * 0 ≡ k = omega (arith, mul-zero m) in ap (λ (n : ℕ). take n s) q ∙ sym (append-nil (take k s))
  take-parts (suc n) h =
      let q : k + m * suc n ≡ k + m * n + m = omega (arith, mul-suc m n) in
      ap (λ (n : ℕ). take n s) q
      ∙ h n (omega arith)
      ∙ ap (λ (l : List ℕ). l ++ f (g n)) (take-parts n (λ j b. h j (omega arith)))
      ∙ append_assoc (take k s) (concat_map f (each n g)) (f (g n))
      ∙ ap (λ (l : List ℕ). take k s ++ l) (sym (ap (concat_map f) (each_more g n) ∙ concat_map-append f (each n g) (g n ∷ []) ∙ ap (λ (l : List ℕ). concat_map f (each n g) ++ l) (append-nil (f (g n)))))

module _ (s : List ℕ) (long : length s ≡ 512) (bytes : Bytes s) (ok : Clean s) where
  -- bytes 0 to 3

  byte_3 : byte s 3 ≡ 0
  unfolding bad3
  byte_3 = eqb-true (byte s 3) 0 (not-false (eqb (byte s 3) 0) (ok.third 3 (lit< tt)))

  -- the words

  pub word_part : (k : ℕ) → k + 2 ≤ 512 → take (k + 2) s ≡ take k s ++ two (word s k)
  word_part k h = take_each s k 2 (omega arith) ∙ ap (λ (n : ℕ). take k s ++ (byte s n ∷ byte s (k + 1) ∷ [])) (add-zero k) ∙ ap (λ (l : List ℕ). take k s ++ l) (sym (two_of_lem (byte s k) (byte s (k + 1)) (bytes.each k)))

  -- the instructions

  module _ (m : ℕ) (h : m < 48) where
    slot_bytes_lem : instr_bytes (slot_at s m).instr ≡ each 6 (λ j. byte s (at s ok m h j))
    slot_bytes_lem = ap instr_bytes (held_is s ok m h) ∙ ⊎_elim whole empty (decide (used s (m / 12) (m % 12)))
      where
        whole : used s (m / 12) (m % 12) ≡ true → instr_bytes (held s ok m h) ≡ each 6 (λ j. byte s (at s ok m h j))
        whole u = bytes_back (byte s (4 + m / 12)) (byte s (at s ok m h 1)) (byte s (at s ok m h 2)) (byte s (at s ok m h 3)) (byte s (at s ok m h 4)) (byte s (at s ok m h 5)) (λ k. word s (at s ok m h (suc k))) (bytes.each (at s ok m h 4)) (byte s (at s ok m h 0)) (used_op s ok m h u).0 (used_op s ok m h u).1 (used_fields s ok m h u)

        empty : used s (m / 12) (m % 12) ≡ false → instr_bytes (held s ok m h) ≡ each 6 (λ j. byte s (at s ok m h j))
        empty u =
            let z = unused_zero s ok m h u in
            (λ t. instr_bytes (instr_of (z 0 (lit< tt) t) (z 1 (lit< tt) t) (z 2 (lit< tt) t) (z 3 (lit< tt) t) (z 4 (lit< tt) t + 256 * z 5 (lit< tt) t)))
            ∙ sym (λ t. z 0 (lit< tt) t ∷ z 1 (lit< tt) t ∷ z 2 (lit< tt) t ∷ z 3 (lit< tt) t ∷ z 4 (lit< tt) t ∷ z 5 (lit< tt) t ∷ [])

    slot-part : take (92 + 6 * m + 6) s ≡ take (92 + 6 * m) s ++ instr_bytes (slot_at s m).instr
    slot-part = take_each s (92 + 6 * m) 6 (omega arith) ∙ ap (λ (l : List ℕ). take (92 + 6 * m) s ++ l) (sym slot_bytes_lem)

  -- bytes 380 to 509

  last_zero : each 130 (λ i. byte s (380 + i)) ≡ replicate 130 0
  unfolding bad7
  last_zero = sym (each_is (λ i. byte s (380 + i)) 0 (replicate 130 0) 130 refl (λ i h. get_or-replicate {A = ℕ} 130 i 0 0 h ∙ sym (last_byte i h)))
    where
      last_byte : (i : ℕ) → i < 130 → byte s (380 + i) ≡ 0
      last_byte i h =
          let far = or_right (within 92 380 (380 + i) && not (used s (proc_at (380 + i)) (number_at (380 + i)))) (within 380 510 (380 + i)) (and_make (leb 380 (380 + i)) (ltb (380 + i) 510) (le-leb 380 (380 + i) (omega arith)) (lt-ltb (380 + i) 510 (omega arith))) in
          eqb-true (byte s (380 + i)) 0 (not-false _ (and_rest _ (marked s (380 + i)) (ok.seventh (380 + i) (omega arith)) far))

  pub contents-back : byte s 2 ≡ 0 → contents (case_of s) ≡ take 510 s
  unfolding contents case_of
  contents-back none =
      let e₁ : take 4 s ≡ byte s 0 ∷ byte s 1 ∷ 0 ∷ 0 ∷ [] = take_each s 0 4 (omega arith) ∙ (λ t. byte s 0 ∷ byte s 1 ∷ none t ∷ byte_3 t ∷ []) in
      let e₂ = take_each s 4 4 (omega arith) ∙ ap (λ (l : List ℕ). l ++ each 4 (λ p. byte s (4 + p))) e₁ in
      let e₃ = take_each s 8 4 (omega arith) ∙ ap (λ (l : List ℕ). l ++ each 4 (λ p. byte s (8 + p))) e₂ in
      let e₄ = take-parts two 2 (λ n. word s (12 + 2 * n)) s 12 32 (λ j b. word_part (12 + 2 * j) (omega arith)) ∙ ap (λ (l : List ℕ). l ++ concat_map two (each 32 (λ n. word s (12 + 2 * n)))) e₃ in
      let e₅ = take-parts two 2 (λ n. word s (76 + 2 * n)) s 76 8 (λ j b. word_part (76 + 2 * j) (omega arith)) ∙ ap (λ (l : List ℕ). l ++ concat_map two (each 8 (λ n. word s (76 + 2 * n)))) e₄ in
      let e₆ = take-parts slot_bytes 6 (slot_at s) s 92 48 slot-part ∙ ap (λ (l : List ℕ). l ++ concat_map slot_bytes (each 48 (slot_at s))) e₅ in
      let e₇ = take_each s 380 130 (omega arith) ∙ (λ t. e₆ t ++ last_zero t) in
      sym (e₇ ∙ simp append_assoc)
