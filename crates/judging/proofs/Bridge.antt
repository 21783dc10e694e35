-- A record is sound exactly if its fields are good: the bytes of a case against its fields. Assumes nothing.
use mathlib.Core.Path.{◌≡◌, refl, ap, sym, ◌∙◌}
use mathlib.Core.Bool.{Bool, true, false, ◌&&◌, ◌||◌, not, cond}
use mathlib.Core.List.{List, ◌∷◌, ◌++◌, append_assoc}
use mathlib.Core.Option.{none, some}
use Prim.Native.Nat.{ℕ, ◌+◌, ◌*◌, ◌-◌, ◌/◌, ◌%◌, ◌<◌, ◌≤◌}
use native.Mathlib.Omega.{arith}
use lib.Dec.{eqb, ltb, leb, lit<}
use lib.ListN.{length, get_or, replicate, length-append, get_or-replicate}
use lib.Seq.{get_or-append-add}
use borrow.Author.Tests.{le-ltb, lt-ltb, le-leb, eqb-true, eqb-false, ltb-false, not-false}
use Rattle.words.specs.Small.{concat_map, or_zero}
use Rattle.words.specs.Sets.{has}
use Rattle.words.proofs.Bools.{or_left, or_right, or_none, and_make, and_rest, cond-false, none_below}
use Rattle.words.proofs.First.{first_none, not_yes}
use Rattle.words.proofs.Lists.{each_at, get_d_mid, concat_map-length, concat_map_at}
use Rattle.words.proofs.Sets.{has_zero}
use Rattle.cases.specs.declared.Instr.TheVariants.{Empty}
use Rattle.cases.specs.declared.Case.{Case}
use Rattle.cases.specs.Case.{count_of, instr_at, slot_in, preset_of, word_of}
use Rattle.cases.specs.Instruction.{two, instr_bytes}
use Rattle.cases.specs.Formed.{Formed}
use Rattle.cases.specs.Block.{within, proc_at, number_at, byte_at, byte, word, marked, no_proc, no_loc, used, bad3, bad4, zero5, bad5, bad_byte, bad6, bad7, slot_bytes, case_of, contents}
use Rattle.cases.proofs.Kept.{contents-kept}
use Rattle.cases.proofs.Puts.{two-wide, six-wide}
use Rattle.texts.specs.Reading.{Proper}
use Rattle.judging.specs.Draft.{low_instr, label_of}
use Rattle.judging.proofs.Reach.{Good}
use Rattle.judging.proofs.Finished.{Exact}
use Rattle.judging.proofs.Instructions.{bad_at, Clear, right, no_op}

pub record Long (c : Case) : Type 0 where
  pub counts : length c.counts ≡ 4
  pub masks : length c.masks ≡ 4
  pub presets : length c.presets ≡ 32
  pub memory : length c.memory ≡ 8
  pub code : length c.code ≡ 48

module _ (c : Case) (long : Long c) where
  abbrev s : List ℕ
  s = contents c

  kept : case_of s ≡ c
  kept = contents-kept c long.counts long.masks long.presets long.memory long.code

  pub count_byte : (p : ℕ) → p < 4 → byte s (4 + p) ≡ count_of c p
  unfolding case_of
  count_byte p h = sym (each_at (λ p. byte s (4 + p)) 4 p 0 h) ∙ ap (λ (c : Case). get_or c.counts p 0) kept

  pub mask_byte : (p : ℕ) → p < 4 → byte s (8 + p) ≡ get_or c.masks p 0
  unfolding case_of
  mask_byte p h = sym (each_at (λ p. byte s (8 + p)) 4 p 0 h) ∙ ap (λ (c : Case). get_or c.masks p 0) kept

  pub preset_word : (n : ℕ) → n < 32 → word s (12 + 2 * n) ≡ get_or c.presets n 0
  unfolding case_of
  preset_word n h = sym (each_at (λ n. word s (12 + 2 * n)) 32 n 0 h) ∙ ap (λ (c : Case). get_or c.presets n 0) kept

  pub memory_word : (l : ℕ) → l < 8 → word s (76 + 2 * l) ≡ word_of c l
  unfolding case_of
  memory_word l h = sym (each_at (λ l. word s (76 + 2 * l)) 8 l 0 h) ∙ ap (λ (c : Case). get_or c.memory l 0) kept

  pub proc_byte : byte s 0 ≡ c.procs
  unfolding contents
  proc_byte = refl

  pub loc_byte : byte s 1 ≡ c.locs
  unfolding contents
  loc_byte = refl

  abbrev front : List ℕ
  front = c.procs ∷ c.locs ∷ 0 ∷ 0 ∷ (c.counts ++ (c.masks ++ (concat_map two c.presets ++ concat_map two c.memory)))

  abbrev slots : List ℕ
  slots = concat_map slot_bytes c.code

  front_long : length front ≡ 92
  front_long =
      let a = length-append c.counts (c.masks ++ (concat_map two c.presets ++ concat_map two c.memory)) in
      let b = length-append c.masks (concat_map two c.presets ++ concat_map two c.memory) in
      let d = length-append (concat_map two c.presets) (concat_map two c.memory) in
      let e = concat_map-length two 2 two-wide c.presets in
      let f = concat_map-length two 2 two-wide c.memory in
      omega (arith, long.counts, long.masks, long.presets, long.memory)

  slots_long : length slots ≡ 288
  slots_long = concat_map-length slot_bytes 6 six-wide c.code ∙ omega (arith, long.code)

  parted : s ≡ front ++ (slots ++ replicate 130 0)
  unfolding contents
  parted = simp append_assoc

  pub slot_byte : (n j : ℕ) → n < 48 → j < 6 → byte s (92 + 6 * n + j) ≡ get_or (instr_bytes (slot_in c n)) j 0
  slot_byte n j h b =
      let e : 92 + 6 * n + j ≡ 92 + (6 * n + j) = omega arith in
      (λ t. get_or (parted t) (e t) 0)
      ∙ get_d_mid front slots (replicate 130 0) 92 front_long (6 * n + j) 0 (omega (arith, slots_long))
      ∙ concat_map_at slot_bytes 6 six-wide c.code n j (record { instr = Empty }) 0 (omega (arith, long.code)) b

  pub last_byte : (i : ℕ) → i < 130 → byte s (380 + i) ≡ 0
  last_byte i h =
      let e : 380 + i ≡ 92 + (288 + i) = omega arith in
      let f : length front + (length slots + i) ≡ 92 + (288 + i) = omega (arith, front_long, slots_long) in
      (λ t. get_or (parted t) (e t) 0)
      ∙ ap (λ (n : ℕ). get_or (front ++ (slots ++ replicate 130 0)) n 0) (sym f)
      ∙ get_or-append-add front (slots ++ replicate 130 0) (length slots + i) 0
      ∙ get_or-append-add slots (replicate 130 0) i 0
      ∙ get_or-replicate {A = ℕ} 130 i 0 0 h

unmarked : (b : ℕ) → not (eqb b 0) ≡ false → b ≡ 0
unmarked b h = eqb-true b 0 (not-false (eqb b 0) h)

pub inside : (a b i : ℕ) → a ≤ i → i < b → within a b i ≡ true
inside a b i h k = and_make (leb a i) (ltb i b) (le-leb a i h) (lt-ltb i b k)

-- a proper case is good
module _ (c : Case) (proper : Proper c) where
  formed : Formed c
  formed = proper.formed

  pub long_of : Long c
  long_of = record { counts = formed.counts.0; masks = formed.masks.0; presets = formed.presets.0; memory = formed.memory.0; code = formed.code.0 }

  abbrev t : List ℕ
  t = contents c

  third : (i : ℕ) → i < 510 → bad3 t i ≡ false
  third = none_below 510 (bad3 t) (first_none 2 _ _ proper.shaped).0

  fourth : (i : ℕ) → i < 510 → bad4 t i ≡ false
  fourth = none_below 510 (bad4 t) (first_none 3 _ _ (first_none 2 _ _ proper.shaped).1).0

  fifth : (i : ℕ) → i < 510 → bad5 t i ≡ false
  fifth = none_below 510 (bad5 t) (first_none 4 _ _ (first_none 3 _ _ (first_none 2 _ _ proper.shaped).1).1).0

  sixth : (i : ℕ) → i < 510 → bad6 t i ≡ false
  sixth = none_below 510 (bad6 t) (first_none 5 _ _ (first_none 4 _ _ (first_none 3 _ _ (first_none 2 _ _ proper.shaped).1).1).1).0

  seventh : (i : ℕ) → i < 510 → bad7 t i ≡ false
  seventh = none_below 510 (bad7 t) (first_none 6 _ _ (first_none 5 _ _ (first_none 4 _ _ (first_none 3 _ _ (first_none 2 _ _ proper.shaped).1).1).1).1).0

  proc_range : (1 ≤ c.procs) × (c.procs ≤ 4)
  unfolding bad3 contents
  proc_range =
      let h = third 0 (lit< tt) in
      let a = (or_none _ false h).0 in
      let b = (or_none _ false a).0 in
      let d = (or_none _ false b).0 in
      let e = or_none (eqb c.procs 0) (ltb 4 c.procs) d in
      let x = eqb-false c.procs 0 e.0 in
      let y = ltb-false 4 c.procs e.1 in
      (omega arith, y)

  loc_range : (1 ≤ c.locs) × (c.locs ≤ 8)
  unfolding bad3 contents
  loc_range =
      let h = third 1 (lit< tt) in
      let a = (or_none _ false h).0 in
      let b = (or_none _ false a).0 in
      let e = or_none (eqb c.locs 0) (ltb 8 c.locs) b in
      let x = eqb-false c.locs 0 e.0 in
      let y = ltb-false 8 c.locs e.1 in
      (omega arith, y)

  count_facts : (p : ℕ) → p < 4 → (count_of c p ≤ 12) × (c.procs ≤ p → count_of c p ≡ 0)
  unfolding bad4
  count_facts p h =
      let r = and_rest _ _ (fourth (4 + p) (omega arith)) (inside 4 8 (4 + p) (omega arith) (omega arith)) in
      let e = or_none (ltb 12 (byte t (4 + p))) (no_proc t (4 + p - 4) && marked t (4 + p)) r in
      let x = ltb-false 12 (byte t (4 + p)) e.0 in
      let same = count_byte c long_of p h in
      (omega arith, λ b. sym same ∙ unmarked (byte t (4 + p)) (and_rest _ _ e.1 (le-leb (byte t 0) (4 + p - 4) (omega (arith, proc_byte c long_of)))))

  zeroed : (i : ℕ) → i < 510 → zero5 t i ≡ true → byte t i ≡ 0
  unfolding bad5
  zeroed i h z = unmarked (byte t i) (and_rest (zero5 t i) (marked t i) (fifth i h) z)

  mask_in : (p : ℕ) → p < 4 → c.procs ≤ p → get_or c.masks p 0 ≡ 0
  unfolding zero5
  mask_in p h b =
      sym (mask_byte c long_of p h)
      ∙ zeroed (8 + p) (omega arith)
      (or_left _ (within 76 92 (8 + p) && no_loc t ((8 + p - 76) / 2)) (or_left (within 8 12 (8 + p) && no_proc t (8 + p - 8)) _ (and_make (within 8 12 (8 + p)) (no_proc t (8 + p - 8)) (inside 8 12 (8 + p) (omega arith) (omega arith)) (le-leb (byte t 0) (8 + p - 8) (omega (arith, proc_byte c long_of))))))

  preset_zero : (p k i : ℕ) → p < 4 → k < 8 → has (get_or c.masks p 0) k ≡ false → (i - 12) / 16 ≡ p → (i - 12) / 2 % 8 ≡ k → 12 ≤ i → i < 76 → byte t i ≡ 0
  unfolding zero5
  preset_zero p k i h b u e f x y =
      let unset : has (byte t (8 + (i - 12) / 16)) ((i - 12) / 2 % 8) ≡ false = (λ j. has (byte t (8 + e j)) (f j)) ∙ ap (λ (m : ℕ). has m k) (mask_byte c long_of p h) ∙ u in
      zeroed i (omega arith)
      (or_left _ (within 76 92 i && no_loc t ((i - 76) / 2))
      (or_right (within 8 12 i && no_proc t (i - 8)) (within 12 76 i && (no_proc t ((i - 12) / 16) || not (has (byte t (8 + (i - 12) / 16)) ((i - 12) / 2 % 8))))
      (and_make (within 12 76 i) _ (inside 12 76 i x y) (or_right (no_proc t ((i - 12) / 16)) _ (not_yes _ unset)))))

  preset_unset : (p k : ℕ) → p < 4 → k < 8 → has (get_or c.masks p 0) k ≡ false → get_or c.presets (8 * p + k) 0 ≡ 0
  preset_unset p k h b u =
      let n = 8 * p + k in
      let lo = preset_zero p k (12 + 2 * n) h b u (omega arith) (omega arith) (omega arith) (omega arith) in
      let hi = preset_zero p k (12 + 2 * n + 1) h b u (omega arith) (omega arith) (omega arith) (omega arith) in
      sym (preset_word c long_of n (omega arith)) ∙ omega arith

  word_zero : (l i : ℕ) → c.locs ≤ l → (i - 76) / 2 ≡ l → 76 ≤ i → i < 92 → byte t i ≡ 0
  unfolding zero5
  word_zero l i b e x y =
      zeroed i (omega arith)
      (or_right ((within 8 12 i && no_proc t (i - 8)) || (within 12 76 i && (no_proc t ((i - 12) / 16) || not (has (byte t (8 + (i - 12) / 16)) ((i - 12) / 2 % 8))))) (within 76 92 i && no_loc t ((i - 76) / 2)) (and_make (within 76 92 i) _ (inside 76 92 i x y) (le-leb (byte t 1) ((i - 76) / 2) (omega (arith, loc_byte c long_of)))))

  word_in : (l : ℕ) → l < 8 → c.locs ≤ l → word_of c l ≡ 0
  word_in l h b =
      let lo = word_zero l (76 + 2 * l) b (omega arith) (omega arith) (omega arith) in
      let hi = word_zero l (76 + 2 * l + 1) b (omega arith) (omega arith) (omega arith) in
      sym (memory_word c long_of l h) ∙ omega arith

  module _ (p i : ℕ) (h : p < 4) (l : i < 12) where
    abbrev at : ℕ → ℕ
    at j = 92 + 6 * (12 * p + i) + j

    place : (j : ℕ) → j < 6 → (proc_at (at j) ≡ p) × (number_at (at j) ≡ i) × (byte_at (at j) ≡ j) × (at j - byte_at (at j) ≡ at 0)
    place j b = (omega arith, omega arith, omega arith, omega arith)

    used_at : (b : Bool) → ltb i (count_of c p) ≡ b → (j : ℕ) → j < 6 → used t (proc_at (at j)) (number_at (at j)) ≡ b
    used_at b e j h' = let q = place j h' in (λ k. ltb (q.1 k) (byte t (4 + q.0 k))) ∙ ap (ltb i) (count_byte c long_of p h) ∙ e

    slots_at : (j : ℕ) → j < 6 → within 92 380 (at j) ≡ true
    slots_at j b = inside 92 380 (at j) (omega arith) (omega arith)

    -- no byte of a used instruction is bad
    clear : i < count_of c p → Clear (count_of c p) (λ j. word t (at j)) (instr_at c p i)
    unfolding bad6 bad_byte
    clear b j u =
        let q = place j u in
        let op = ap (byte t) q.3 ∙ slot_byte c long_of (12 * p + i) 0 (omega arith) (lit< tt) in
        let n = ap (λ (p : ℕ). byte t (4 + p)) q.0 ∙ count_byte c long_of p h in
        sym (λ k. bad_at (op k) (n k) (q.2 k) (slot_byte c long_of (12 * p + i) j (omega arith) u k) (word t (at j)))
        ∙ and_rest (within 92 380 (at j) && used t (proc_at (at j)) (number_at (at j))) _ (sixth (at j) (omega arith)) (and_make (within 92 380 (at j)) _ (slots_at j u) (used_at true (lt-ltb i (count_of c p) b) j u))

    pub used_facts : i < count_of c p → (low_instr (instr_at c p i) ≡ true) × (label_of (instr_at c p i) ≤ count_of c p)
    used_facts b =
        let e : at 4 + 1 ≡ at 5 = omega arith in
        let lo = slot_byte c long_of (12 * p + i) 4 (omega arith) (lit< tt) in
        let hi = ap (byte t) e ∙ slot_byte c long_of (12 * p + i) 5 (omega arith) (lit< tt) in
        right (count_of c p) (λ j. word t (at j)) (instr_at c p i) (formed.code.1 (12 * p + i)) (λ k. lo k + 256 * hi k) (clear b)

    pub unused_empty : count_of c p ≤ i → instr_at c p i ≡ Empty
    unfolding bad7
    unused_empty b =
        let free = or_left (within 92 380 (at 0) && not (used t (proc_at (at 0)) (number_at (at 0)))) (within 380 510 (at 0)) (and_make (within 92 380 (at 0)) _ (slots_at 0 (lit< tt)) (not_yes _ (used_at false (le-ltb i (count_of c p) b) 0 (lit< tt)))) in
        no_op (instr_at c p i) (sym (slot_byte c long_of (12 * p + i) 0 (omega arith) (lit< tt)) ∙ unmarked (byte t (at 0)) (and_rest _ (marked t (at 0)) (seventh (at 0) (omega arith)) free))

  preset_small : (p k : ℕ) → or_zero (preset_of c p k) < 65536
  preset_small p k = go (has (get_or c.masks p 0) k)
    where
      go : (b : Bool) → or_zero (cond b (some (get_or c.presets (8 * p + k) 0)) none) < 65536
      go true = formed.presets.1.each (8 * p + k)
      go false = omega arith

  pub good_case : Good c
  good_case =
      record {
        procs = proc_range;
        locs = loc_range;
        words = λ l h. formed.memory.1.each l;
        words_in = word_in;
        presets = λ p k h b. preset_small p k;
        presets_in = λ p k h b a. cond-false (has (get_or c.masks p 0) k) (some (get_or c.presets (8 * p + k) 0)) none (ap (λ (m : ℕ). has m k) (mask_in p h a) ∙ has_zero k);
        counts = λ p h. (count_facts p h).0;
        counts_in = λ p h. (count_facts p h).1;
        used = λ p i h b. (used_facts p i h (omega (arith, (count_facts p h).0)) b).0;
        labels = λ p i h b. (used_facts p i h (omega (arith, (count_facts p h).0)) b).1;
        unused = λ p i h b l. unused_empty p i h l b;
      }

  pub exact_case : Exact c
  exact_case =
      record {
        counts = long_of.counts;
        masks = long_of.masks;
        masks_small = λ p h. formed.masks.1.each p;
        masks_in = mask_in;
        presets = long_of.presets;
        unset = preset_unset;
        memory = long_of.memory;
        code = long_of.code;
      }
