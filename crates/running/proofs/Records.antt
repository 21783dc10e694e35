-- The bytes of registers by their places. Assumes nothing.
use mathlib.Core.Path.{◌≡◌, refl, sym, ◌∙◌, ap, subst}
use mathlib.Core.Bool.{Bool, cond, ◌&&◌}
use denote.Param.Members.{Mut, Called}
use native.Mathlib.Decide.{dec_lt}
use native.Mathlib.Numerals.{add-one}
use Rattle.std.specs.Array.{IsFromFnResultFrom, IsFromFnResult}
use Rattle.std.specs.List.{list_all, range_with_len}
use mathlib.Core.List.{List}
use mathlib.Core.Option.{Option, none, some}
use Prim.Native.Nat.{ℕ, zero, suc, ◌+◌, ◌*◌, ◌/◌, ◌%◌, ◌<◌, ◌≤◌}
use native.Mathlib.Omega.{arith}
use lib.Dec.{ltb}
use lib.ListN.{length, get_or}
use lib.Seq.{ext_get_or}
use borrow.Author.Tests.{lt-ltb}
use Rattle.words.specs.Small.{all, counting, concat_map}
use Rattle.cases.specs.declared.Case.{Case}
use Rattle.rules.specs.Result.{register_bytes}
use Rattle.machine.specs.Shown.{Value, shown_value}
use Rattle.machine.proofs.Listing.{blocks_long, block_at}
use Rattle.boards.specs.declared.Buffering.{Buffering}
use Rattle.boards.specs.Machine.{registers}
use Rattle.running.specs.declared.Arrays.{Arrays}
use Rattle.running.specs.Shown.{unknown, values_of, shown}

-- byte j
abbrev pub byte_at : Case → List Value → ℕ → ℕ
byte_at c values j = get_or (register_bytes (cond (ltb (j / 3 / 8) c.procs) (shown_value (get_or values (j / 3) unknown)) none)) (j % 3) 0

three : (o : Option ℕ) → length (register_bytes o) ≡ 3
three none = refl
three (some n) = refl

module _ (k : Buffering) (c : Case) (s : Arrays) where
  abbrev held : ℕ → ℕ → Option ℕ
  held p r = cond (ltb p c.procs) (values_of c s.values p r) none

  abbrev row : ℕ → List ℕ
  row p = concat_map (λ r. register_bytes (held p r)) (counting 0 8)

  row_long : (p : ℕ) → length (row p) ≡ 24
  row_long p = blocks_long (λ r. register_bytes (held p r)) 3 (λ r. three (held p r)) 8

  whole_long : length (concat_map row (counting 0 4)) ≡ 96
  whole_long = blocks_long row 24 row_long 4

  at_place : (j : ℕ) → j < 96 → get_or (concat_map row (counting 0 4)) j 0 ≡ byte_at c s.values j
  at_place j h =
      let p = j / 3 / 8 in
      let r = j / 3 % 8 in
      let e : 24 * (j / 3 / 8) + (3 * (j / 3 % 8) + j % 3) ≡ j = omega arith in
      let n : 8 * (j / 3 / 8) + j / 3 % 8 ≡ j / 3 = omega arith in
      ap (λ (i : ℕ). get_or (concat_map row (counting 0 4)) i 0) (sym e)
      ∙ block_at row 24 row_long 4 p (3 * r + j % 3) (omega arith) (omega arith)
      ∙ block_at (λ r. register_bytes (held p r)) 3 (λ r. three (held p r)) 8 r (j % 3) (omega arith) (omega arith)
      ∙ ap (λ (o : Option ℕ). get_or (register_bytes (cond (ltb p c.procs) o none)) (j % 3) 0) (rw (lt-ltb p 4 (omega arith), lt-ltb r 8 (omega arith)) (ap (λ (i : ℕ). shown_value (get_or s.values i unknown)) n))

  pub registers_are : (out : List ℕ) → length out ≡ 96 → ((j : ℕ) → j < 96 → get_or out j 0 ≡ byte_at c s.values j) → out ≡ registers c (shown k c s)
  unfolding registers
  registers_are out long same = ext_get_or 0 out (concat_map row (counting 0 4)) (long ∙ sym whole_long) (λ i h. same i (omega arith) ∙ sym (at_place i (omega arith)))

-- what a closure gives of 0, 1, .., n - 1

module _ {F B : Type 0} {g : Mut F (ℕ × Unit {0}) B} (R : ℕ → B → Type 0) (e : B) {f : F} (ys : List B) where
  made_from : ((i : ℕ) (y : B) (q : F) → Called g f (i, tt) y q → (q ≡ f) × R i y) → (n k : ℕ) → IsFromFnResultFrom g f ys k n → (i : ℕ) → k ≤ i → i < k + n → R i (get_or ys i e)
  made_from each zero k m i lo hi = absurd (omega arith)
  made_from each (suc n) k m i lo hi =
      let w = each k m.1 m.0 m.3 in
      elim (dec_lt k i) [
        | yes h ↦ made_from each n (k + 1) (subst (λ (z : F). IsFromFnResultFrom g z ys (k + 1) n) w.0 m.4) i (omega arith) (omega arith)
        | no h ↦ let same : k ≡ i = omega arith in subst (λ (t : ℕ). R t (get_or ys t e)) same (subst (R k) (sym (m.2.1 e)) w.1)
      ]

  pub made_all : {n : ℕ} → IsFromFnResult g f ys n → ((i : ℕ) (y : B) (q : F) → Called g f (i, tt) y q → (q ≡ f) × R i y) → (i : ℕ) → i < n → R i (get_or ys i e)
  made_all {n} m each i h = made_from each n 0 m.each i (omega arith) (omega arith)

-- a test of each number of a range
pub range_all : (f : ℕ → Bool) (n a : ℕ) → list_all f (range_with_len a n) ≡ all f (counting a n)
range_all f zero a = refl
range_all f (suc n) a = ap (λ (t : Bool). f a && t) (range_all f n (a + 1) ∙ ap (λ (m : ℕ). all f (counting m n)) (add-one a))
