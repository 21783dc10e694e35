-- The case that the bytes of a case hold is the case. Assumes nothing.
use mathlib.Core.Path.{◌≡◌, refl, ap, sym, ◌∙◌}
use mathlib.Core.List.{List, [], ◌∷◌, ◌++◌, append_assoc}
use Prim.Native.Nat.{ℕ, ◌+◌, ◌*◌, ◌<◌}
use native.Mathlib.Omega.{arith}
use lib.ListN.{length, get_or, replicate, length-append}
use Rattle.words.specs.Small.{each, concat_map}
use Rattle.words.proofs.Lists.{each_is, each_same, each_mid, get_d_mid, concat_map-length, concat_map_at}
use Rattle.cases.specs.declared.Instr.TheVariants.{Empty}
use Rattle.cases.specs.declared.Slot.{Slot}
use Rattle.cases.specs.declared.Case.{Case}
use Rattle.cases.specs.Instruction.{two, instr_of}
use Rattle.cases.specs.Block.{byte, word, slot_at, slot_bytes, case_of, contents}
use Rattle.cases.proofs.Decoding.{case_is}
use Rattle.cases.proofs.Puts.{two-wide, six-wide}
use Rattle.cases.proofs.Slots.{two_back, instr_back}

-- what a case is read off lies in bytes 0 to 509, byte 2 aside
module _ (s t : List ℕ) (same : (i : ℕ) → i < 510 → (i ≡ 2 → ⊥) → get_or s i 0 ≡ get_or t i 0) where
  past_2 : (i : ℕ) → 2 < i → i < 510 → get_or s i 0 ≡ get_or t i 0
  past_2 i h b = same i b (λ e. omega arith)

  word_same : (i : ℕ) → 2 < i → i < 509 → word s i ≡ word t i
  word_same i h b = rw (past_2 i h (omega arith), past_2 (i + 1) (omega arith) (omega arith))

  slot_same : (n : ℕ) → n < 48 → slot_at s n ≡ slot_at t n
  slot_same n h =
      let at = 92 + 6 * n in
      let b₀ = past_2 at (omega arith) (omega arith) in
      let b₁ = past_2 (at + 1) (omega arith) (omega arith) in
      let b₂ = past_2 (at + 2) (omega arith) (omega arith) in
      let b₃ = past_2 (at + 3) (omega arith) (omega arith) in
      let b₄ = word_same (at + 4) (omega arith) (omega arith) in
      λ j. record { instr = instr_of (b₀ j) (b₁ j) (b₂ j) (b₃ j) (b₄ j) }

  pub case_same : case_of s ≡ case_of t
  unfolding case_of
  case_same =
      case_is t (byte s 0) (byte s 1) _ _ _ _ _ (same 0 (omega arith) (λ e. omega arith)) (same 1 (omega arith) (λ e. omega arith))
      (each_same (λ p. byte s (4 + p)) (λ p. byte t (4 + p)) 4 (λ p h. past_2 (4 + p) (omega arith) (omega arith)))
      (each_same (λ p. byte s (8 + p)) (λ p. byte t (8 + p)) 4 (λ p h. past_2 (8 + p) (omega arith) (omega arith)))
      (each_same (λ n. word s (12 + 2 * n)) (λ n. word t (12 + 2 * n)) 32 (λ n h. word_same (12 + 2 * n) (omega arith) (omega arith)))
      (each_same (λ n. word s (76 + 2 * n)) (λ n. word t (76 + 2 * n)) 8 (λ n h. word_same (76 + 2 * n) (omega arith) (omega arith)))
      (each_same (slot_at s) (slot_at t) 48 slot_same)

-- the words, the instructions that stand at k behind p, in front of q
module _ (p q : List ℕ) (k : ℕ) (long : length p ≡ k) where
  module _ (l : List ℕ) where
    abbrev list : List ℕ
    list = p ++ (concat_map two l ++ q)

    part : (i j : ℕ) → i < length l → j < 2 → get_or list (k + (2 * i + j)) 0 ≡ get_or (two (get_or l i 0)) j 0
    part i j h b = get_d_mid p (concat_map two l) q k long (2 * i + j) 0 (omega (arith, concat_map-length two 2 two-wide l)) ∙ concat_map_at two 2 two-wide l i j 0 0 h b

    pub words_mid : (n : ℕ) → length l ≡ n → each n (λ i. word list (k + 2 * i)) ≡ l
    words_mid n e = sym (each_is (λ i. word list (k + 2 * i)) 0 l n e (λ i h. sym (one i (omega arith))))
      where
        one : (i : ℕ) → i < length l → word list (k + 2 * i) ≡ get_or l i 0
        one i h =
            let u : k + 2 * i ≡ k + (2 * i + 0) = omega arith in
            let v : k + 2 * i + 1 ≡ k + (2 * i + 1) = omega arith in
            let lo = ap (λ (n : ℕ). get_or list n 0) u ∙ part i 0 h (omega arith) in
            let hi = ap (λ (n : ℕ). get_or list n 0) v ∙ part i 1 h (omega arith) in
            (λ t. lo t + 256 * hi t) ∙ two_back (get_or l i 0)

module _ (p q : List ℕ) (long : length p ≡ 92) (l : List Slot) where
  abbrev code : List ℕ
  code = p ++ (concat_map slot_bytes l ++ q)

  abbrev slot_of : ℕ → Slot
  slot_of i = get_or l i (record { instr = Empty })

  piece : (i j : ℕ) → i < length l → j < 6 → byte code (92 + 6 * i + j) ≡ get_or (slot_bytes (slot_of i)) j 0
  piece i j h b =
      let u : 92 + 6 * i + j ≡ 92 + (6 * i + j) = omega arith in
      ap (byte code) u
      ∙ get_d_mid p (concat_map slot_bytes l) q 92 long (6 * i + j) 0 (omega (arith, concat_map-length slot_bytes 6 six-wide l))
      ∙ concat_map_at slot_bytes 6 six-wide l i j (record { instr = Empty }) 0 h b

  slot_mid : (i : ℕ) → i < length l → slot_at code i ≡ slot_of i
  slot_mid i h =
      let u : 92 + 6 * i ≡ 92 + 6 * i + 0 = omega arith in
      let v : 92 + 6 * i + 4 + 1 ≡ 92 + 6 * i + 5 = omega arith in
      let b₀ = ap (byte code) u ∙ piece i 0 h (omega arith) in
      let b₁ = piece i 1 h (omega arith) in
      let b₂ = piece i 2 h (omega arith) in
      let b₃ = piece i 3 h (omega arith) in
      let b₄ = piece i 4 h (omega arith) in
      let b₅ = ap (byte code) v ∙ piece i 5 h (omega arith) in
      (λ t. record { instr = instr_of (b₀ t) (b₁ t) (b₂ t) (b₃ t) (b₄ t + 256 * b₅ t) }) ∙ (λ t. record { instr = instr_back (slot_of i).instr t })

  pub slots_mid : (n : ℕ) → length l ≡ n → each n (slot_at code) ≡ l
  slots_mid n e = sym (each_is (slot_at code) (record { instr = Empty }) l n e (λ i h. sym (slot_mid i (omega arith))))

module _ (c : Case) (counts : length c.counts ≡ 4) (masks : length c.masks ≡ 4) (presets : length c.presets ≡ 32) (memory : length c.memory ≡ 8) (slots : length c.code ≡ 48) where
  abbrev l₂ : List ℕ
  l₂ = concat_map two c.presets

  abbrev l₃ : List ℕ
  l₃ = concat_map two c.memory

  abbrev l₄ : List ℕ
  l₄ = concat_map slot_bytes c.code

  abbrev p₁ : List ℕ
  p₁ = c.procs ∷ c.locs ∷ 0 ∷ 0 ∷ []

  abbrev p₂ : List ℕ
  p₂ = p₁ ++ c.counts

  abbrev p₃ : List ℕ
  p₃ = p₂ ++ c.masks

  abbrev p₄ : List ℕ
  p₄ = p₃ ++ l₂

  abbrev p₅ : List ℕ
  p₅ = p₄ ++ l₃

  abbrev q₄ : List ℕ
  q₄ = replicate 130 0

  abbrev q₃ : List ℕ
  q₃ = l₄ ++ q₄

  abbrev q₂ : List ℕ
  q₂ = l₃ ++ q₃

  abbrev q₁ : List ℕ
  q₁ = l₂ ++ q₂

  e₂ : contents c ≡ p₂ ++ (c.masks ++ q₁)
  unfolding contents
  e₂ = sym (append_assoc p₁ c.counts (c.masks ++ q₁))

  e₃ : contents c ≡ p₃ ++ (l₂ ++ q₂)
  e₃ = e₂ ∙ sym (append_assoc p₂ c.masks q₁)

  e₄ : contents c ≡ p₄ ++ (l₃ ++ q₃)
  e₄ = e₃ ∙ sym (append_assoc p₃ l₂ q₂)

  e₅ : contents c ≡ p₅ ++ (l₄ ++ q₄)
  e₅ = e₄ ∙ sym (append_assoc p₄ l₃ q₃)

  n₂ : length p₂ ≡ 8
  n₂ = length-append p₁ c.counts ∙ ap (λ (n : ℕ). 4 + n) counts

  n₃ : length p₃ ≡ 12
  n₃ = length-append p₂ c.masks ∙ omega (arith, n₂)

  n₄ : length p₄ ≡ 76
  n₄ = length-append p₃ l₂ ∙ omega (arith, n₃, concat_map-length two 2 two-wide c.presets)

  n₅ : length p₅ ≡ 92
  n₅ = length-append p₄ l₃ ∙ omega (arith, n₄, concat_map-length two 2 two-wide c.memory)

  pub contents_long : length (contents c) ≡ 510
  contents_long = ap length e₅ ∙ length-append p₅ (l₄ ++ q₄) ∙ omega (arith, n₅, length-append l₄ q₄, concat_map-length slot_bytes 6 six-wide c.code)

  pub contents-kept : case_of (contents c) ≡ c
  unfolding contents
  contents-kept =
      sym
      (case_is (contents c) c.procs c.locs c.counts c.masks c.presets c.memory c.code refl refl
      (sym (each_mid p₁ c.counts (c.masks ++ q₁) 4 refl 4 0 counts))
      (sym (ap (λ (s : List ℕ). each 4 (λ i. byte s (8 + i))) e₂ ∙ each_mid p₂ c.masks q₁ 8 n₂ 4 0 masks))
      (sym (ap (λ (s : List ℕ). each 32 (λ i. word s (12 + 2 * i))) e₃ ∙ words_mid p₃ q₂ 12 n₃ c.presets 32 presets))
      (sym (ap (λ (s : List ℕ). each 8 (λ i. word s (76 + 2 * i))) e₄ ∙ words_mid p₄ q₃ 76 n₄ c.memory 8 memory))
      (sym (ap (λ (s : List ℕ). each 48 (slot_at s)) e₅ ∙ slots_mid p₅ q₄ n₅ c.code 48 slots)))
