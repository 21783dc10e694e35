-- The case that an accepted block holds is what the machine asks for. Assumes nothing.
use mathlib.Core.Path.{◌≡◌, refl, sym, ap, subst}
use mathlib.Core.Bool.{Bool, true, false, ◌||◌, false≢true}
use mathlib.Core.List.{List, [], ◌∷◌}
use Prim.Native.Nat.{ℕ, zero, suc, ◌+◌, ◌*◌, ◌/◌, ◌%◌, ◌≤◌, ◌<◌}
use native.Mathlib.Omega.{arith}
use native.Mathlib.Decide.{dec_lt}
use lib.Dec.{eqb, ltb, leb, lit<}
use lib.ListN.{length, get_or, get_or-eq_default}
use borrow.Author.Tests.{lt-ltb, le-leb, ltb-false, leb-false}
use Rattle.words.specs.Small.{each}
use Rattle.words.specs.Refusals.{first_code_of}
use Rattle.words.proofs.Bools.{or_none, and_make, and_rest}
use Rattle.words.proofs.Lists.{each_length, each_at}
use Rattle.cases.specs.declared.Slot.{Slot}
use Rattle.cases.specs.declared.Instr.TheVariants.{Empty}
use Rattle.cases.specs.Instruction.{instr_of, field_at, bad_field}
use Rattle.cases.specs.Case.{count_of, instr_at}
use Rattle.cases.specs.Block.{within, byte, word, used, bad3, bad4, faults, slot_at, case_of}
use Rattle.cases.proofs.Held.{Clean, clean, few_procs, at, used_op, used_fields, held_is}
use Rattle.machine.specs.Fit.{Fine, Fit}

-- an instruction none of whose bytes is bad
module _ (n d a b k : ℕ) (low high : ℕ) (w : ℕ → ℕ) (few : n ≤ 12) (same : w 3 ≡ k) where
  abbrev Good : ℕ → Type 0
  Good op = (j : ℕ) → j < 5 → bad_field (field_at op j) n (get_or (d ∷ a ∷ b ∷ low ∷ high ∷ []) j 0) (w j) ≡ false

  label : ltb n (w 3) ≡ false → k ≤ 12
  label h = omega (arith, ltb-false n (w 3) h)

  fine : (op : ℕ) → 0 < op → op < 11 → Good op → Fine (instr_of op d a b k)
  fine zero p q h = absurd (omega arith)
  fine (suc zero) p q h = (leb-false 8 d (h 0 (lit< tt)), leb-false 8 a (h 1 (lit< tt)))
  fine (suc (suc zero)) p q h = (leb-false 8 a (h 1 (lit< tt)), leb-false 8 b (h 2 (lit< tt)))
  fine (suc (suc (suc zero))) p q h = (leb-false 8 d (h 0 (lit< tt)), tt)
  fine (suc (suc (suc (suc zero)))) p q h = (leb-false 8 d (h 0 (lit< tt)), (leb-false 8 a (h 1 (lit< tt)), leb-false 8 b (h 2 (lit< tt))))
  fine (suc (suc (suc (suc (suc zero))))) p q h = (leb-false 8 d (h 0 (lit< tt)), (leb-false 8 a (h 1 (lit< tt)), leb-false 8 b (h 2 (lit< tt))))
  fine (suc (suc (suc (suc (suc (suc zero)))))) p q h = (leb-false 8 d (h 0 (lit< tt)), (leb-false 8 a (h 1 (lit< tt)), leb-false 8 b (h 2 (lit< tt))))
  fine (suc (suc (suc (suc (suc (suc (suc zero))))))) p q h = (leb-false 8 a (h 1 (lit< tt)), label (h 3 (lit< tt)))
  fine (suc (suc (suc (suc (suc (suc (suc (suc zero)))))))) p q h = label (h 3 (lit< tt))
  fine (suc (suc (suc (suc (suc (suc (suc (suc (suc zero))))))))) p q h = leb-false 8 a (h 1 (lit< tt))
  fine (suc (suc (suc (suc (suc (suc (suc (suc (suc (suc zero)))))))))) p q h = leb-false 8 a (h 1 (lit< tt))
  fine (suc (suc (suc (suc (suc (suc (suc (suc (suc (suc (suc op))))))))))) p q h = absurd (omega arith)

second_of : (x : Bool) → (x || false || false) ≡ false → x ≡ false
second_of true h = absurd (false≢true (sym h))
second_of false h = refl

module _ (s : List ℕ) (ok : Clean s) where
  few_locs : byte s 1 ≤ 8
  unfolding bad3
  few_locs = omega (arith, ltb-false 8 (byte s 1) (or_none (eqb (byte s 1) 0) (ltb 8 (byte s 1)) (second_of (eqb (byte s 1) 0 || ltb 8 (byte s 1)) (ok.third 1 (lit< tt)))).1)

  few_byte : (p : ℕ) → p < 4 → byte s (4 + p) ≤ 12
  unfolding bad4
  few_byte p h =
      let w = and_make (leb 4 (4 + p)) (ltb (4 + p) 8) (le-leb 4 (4 + p) (omega arith)) (lt-ltb (4 + p) 8 (omega arith)) in
      omega (arith, ltb-false 12 (byte s (4 + p)) (or_none _ _ (and_rest (within 4 8 (4 + p)) _ (ok.fourth (4 + p) (omega arith)) w)).0)

  count_is : (p : ℕ) → p < 4 → count_of (case_of s) p ≡ byte s (4 + p)
  unfolding case_of
  count_is p h = each_at (λ q. byte s (4 + q)) 4 p 0 h

  count_past : (p : ℕ) → 4 ≤ p → count_of (case_of s) p ≡ 0
  unfolding case_of
  count_past p h = let q : length (each 4 (λ q. byte s (4 + q))) ≤ p = omega arith in get_or-eq_default (each 4 (λ q. byte s (4 + q))) 0 q

  few_instrs : (p : ℕ) → count_of (case_of s) p ≤ 12
  few_instrs p = elim (dec_lt p 4) [
    | yes h ↦ omega (arith, count_is p h, few_byte p h)
    | no h ↦ omega (arith, count_past p (omega arith))
  ]

  instr_is : (m : ℕ) → m < 48 → (get_or (case_of s).code m (record { instr = Empty })).instr ≡ (slot_at s m).instr
  unfolding case_of
  instr_is m h = ap (λ (x : Slot). x.instr) (each_at (slot_at s) 48 m (record { instr = Empty }) h)

  fine_slot : (m : ℕ) (h : m < 48) → used s (m / 12) (m % 12) ≡ true → byte s (4 + m / 12) ≤ 12 → Fine (slot_at s m).instr
  fine_slot m h u few =
      let q : at s ok m h 4 + 1 ≡ at s ok m h 5 = omega arith in
      subst Fine (sym (held_is s ok m h))
      (fine (byte s (4 + m / 12)) (byte s (at s ok m h 1)) (byte s (at s ok m h 2)) (byte s (at s ok m h 3)) (byte s (at s ok m h 4) + 256 * byte s (at s ok m h 5)) (byte s (at s ok m h 4)) (byte s (at s ok m h 5)) (λ k. word s (at s ok m h (suc k)))
      few (ap (λ (i : ℕ). byte s (at s ok m h 4) + 256 * byte s i) q) (byte s (at s ok m h 0)) (used_op s ok m h u).0 (used_op s ok m h u).1 (used_fields s ok m h u))

  fine_at : (p i : ℕ) → p < 4 → i < count_of (case_of s) p → Fine (instr_at (case_of s) p i)
  fine_at p i hp hi =
      let n = few_instrs p in
      let a : (12 * p + i) / 12 ≡ p = omega arith in
      let b : (12 * p + i) % 12 ≡ i = omega arith in
      let m : 12 * p + i < 48 = omega arith in
      let u : used s ((12 * p + i) / 12) ((12 * p + i) % 12) ≡ true = rw (a, b) (lt-ltb i (byte s (4 + p)) (omega (arith, count_is p hp))) in
      let f : byte s (4 + (12 * p + i) / 12) ≤ 12 = rw a (few_byte p hp) in
      subst Fine (sym (instr_is (12 * p + i) m)) (fine_slot (12 * p + i) m u f)

  clean_fit : Fit (case_of s)
  unfolding case_of
  clean_fit = record {
    procs = few_procs s ok;
    locs = few_locs;
    counts = few_instrs;
    fine = fine_at;
    counts_long = refl;
    masks_long = refl;
    presets_long = refl;
    memory_long = refl;
    code_long = each_length (slot_at s) 48;
  }

pub fit : (s : List ℕ) → first_code_of (faults s) ≡ 0 → Fit (case_of s)
fit s h = clean_fit s (clean s h)
