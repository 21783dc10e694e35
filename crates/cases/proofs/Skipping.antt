-- Positions that are passed over: none of them is bad. Assumes nothing.
use mathlib.Core.Path.{◌≡◌, refl, sym, subst}
use mathlib.Core.Bool.{Bool, false, ◌&&◌, ◌||◌, not}
use mathlib.Core.List.{List}
use Prim.Native.Nat.{ℕ, ◌+◌, ◌*◌, ◌≤◌, ◌<◌}
use native.Mathlib.Omega.{arith}
use native.Mathlib.Decide.{dec_lt}
use borrow.Author.Tests.{le-ltb, ltb-false}
use Rattle.words.proofs.Bools.{and_left, and_right}
use Rattle.cases.specs.Block.{within, proc_at, number_at, byte, marked, used, zero5, bad5, bad6, bad7, bad19, bad}
use Rattle.cases.specs.Given.{in_use, Skipped}
use Rattle.cases.proofs.Spans.{before}

-- nothing is passed over
pub stay : (f : ℕ → Bool) (i : ℕ) → i ≤ 510 → Skipped f i i
stay f i h = record { from = omega arith; within = h; none_between = λ k l m. absurd (omega arith) }

-- one position more is passed over
pub skip_more : (f : ℕ → Bool) (i r : ℕ) → Skipped f i r → f r ≡ false → r < 510 → Skipped f i (r + 1)
skip_more f i r d e h =
    record {
      from = let g = d.from in omega arith;
      within = omega arith;
      none_between = λ k l m. elim (dec_lt k r) [ yes b ↦ d.none_between k l b | no g ↦ subst (λ (n : ℕ). f n ≡ false) (omega arith) e ];
    }

-- none before i, and none passed over from there
pub passed : (f : ℕ → Bool) (i r : ℕ) → ((k : ℕ) → k < i → f k ≡ false) → Skipped f i r → (k : ℕ) → k < r → f k ≡ false
passed f i r before d k h = elim (dec_lt k i) [ yes b ↦ before k b | no g ↦ d.none_between k (omega arith) h ]

-- what f does not hold of, g does not hold of either
fewer : {f g : ℕ → Bool} {i r : ℕ} → ((k : ℕ) → f k ≡ false → g k ≡ false) → Skipped f i r → Skipped g i r
fewer h d = record { from = d.from; within = d.within; none_between = λ k l m. h k (d.none_between k l m) }

module _ (s : List ℕ) where
  unmarked_5 : (k : ℕ) → marked s k ≡ false → bad s 5 k ≡ false
  unfolding bad bad5
  unmarked_5 k h = and_right (zero5 s k) (marked s k) h

  unmarked_7 : (k : ℕ) → marked s k ≡ false → bad s 7 k ≡ false
  unfolding bad bad7
  unmarked_7 k h = rw h (and_right ((within 92 380 k && not (used s (proc_at k) (number_at k))) || within 380 510 k) false refl)

  unused_6 : (k : ℕ) → in_use s k ≡ false → bad s 6 k ≡ false
  unfolding bad bad6
  unused_6 k h = rw h

  unused_19 : (k : ℕ) → in_use s k ≡ false → bad s 19 k ≡ false
  unfolding bad bad19
  unused_19 k h = rw h

  -- the code that is matched
  module _ (code i r : ℕ) where
    at_code : (n : ℕ) → code ≡ n → Skipped (bad s n) i r → Skipped (bad s code) i r
    at_code n e = subst (λ (m : ℕ). Skipped (bad s m) i r) (sym e)

    pub skip_5 : code ≡ 5 → Skipped (marked s) i r → Skipped (bad s code) i r
    skip_5 e d = at_code 5 e (fewer unmarked_5 d)

    pub skip_6 : code ≡ 6 → Skipped (in_use s) i r → Skipped (bad s code) i r
    skip_6 e d = at_code 6 e (fewer unused_6 d)

    pub skip_7 : code ≡ 7 → Skipped (marked s) i r → Skipped (bad s code) i r
    skip_7 e d = at_code 7 e (fewer unmarked_7 d)

    pub skip_19 : code ≡ 19 → Skipped (in_use s) i r → Skipped (bad s code) i r
    skip_19 e d = at_code 19 e (fewer unused_19 d)

  -- the instructions of a processor that follow an unused one are not used
  unused_on : (i k : ℕ) → byte s (4 + proc_at i) ≤ number_at i → i ≤ k → k < 164 + proc_at i * 72 → in_use s k ≡ false
  unused_on i k u l m = elim (dec_lt k 92) [
    | yes h ↦ and_left (within 92 380 k) (used s (proc_at k) (number_at k)) (before 92 380 k h)
    | no g ↦
        let p : proc_at i ≡ proc_at k = omega arith in
        let q : number_at i ≤ number_at k = omega arith in
        let v : byte s (4 + proc_at k) ≤ number_at k = subst (λ (n : ℕ). byte s (4 + n) ≤ number_at k) p (omega arith) in
        and_right (within 92 380 k) (used s (proc_at k) (number_at k)) (le-ltb (number_at k) (byte s (4 + proc_at k)) v)
  ]

  pub next_used : (i : ℕ) → i < 380 → used s (proc_at i) (number_at i) ≡ false → Skipped (in_use s) i (164 + proc_at i * 72)
  next_used i h u = record { from = omega arith; within = omega arith; none_between = λ k l m. unused_on i k (ltb-false (number_at i) (byte s (4 + proc_at i)) u) l m }
