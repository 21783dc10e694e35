-- Which positions a code speaks of: outside them none is bad for it. Assumes nothing.
use mathlib.Core.Path.{◌≡◌, refl, sym, ◌∙◌, subst}
use mathlib.Core.Bool.{false}
use mathlib.Core.List.{List}
use Prim.Native.Nat.{ℕ, zero, suc, ◌+◌, ◌-◌, ◌<◌, ◌≤◌}
use native.Mathlib.Omega.{arith}
use lib.Dec.{eqb, ltb, leb}
use borrow.Author.Tests.{lt-leb, le-ltb, ne_eqb}
use Rattle.words.proofs.First.{and_no_left, and_no_right}
use Rattle.cases.specs.Block.{within, bad3, bad4, zero5, bad5, bad6, bad7, bad19, bad}
use Rattle.cases.proofs.Lowest.{bad_else}

pub before : (from to i : ℕ) → i < from → within from to i ≡ false
before from to i h = and_no_left (leb from i) (ltb i to) (lt-leb from i h)

after : (from to i : ℕ) → to ≤ i → within from to i ≡ false
after from to i h = and_no_right (leb from i) (ltb i to) (le-ltb i to h)

module _ (s : List ℕ) (i : ℕ) where
  pub after_3 : 4 ≤ i → bad s 3 i ≡ false
  unfolding bad bad3
  after_3 h = rw (ne_eqb i 0 (λ e. absurd (omega arith)), ne_eqb i 1 (λ e. absurd (omega arith)), ne_eqb i 2 (λ e. absurd (omega arith)), ne_eqb i 3 (λ e. absurd (omega arith)))

  pub before_4 : i < 4 → bad s 4 i ≡ false
  unfolding bad bad4
  before_4 h = rw (before 4 8 i h)

  pub after_4 : 8 ≤ i → bad s 4 i ≡ false
  unfolding bad bad4
  after_4 h = rw (after 4 8 i h)

  pub before_5 : i < 8 → bad s 5 i ≡ false
  unfolding bad bad5 zero5
  before_5 h = rw (before 8 12 i h, before 12 76 i (omega arith), before 76 92 i (omega arith))

  pub after_5 : 92 ≤ i → bad s 5 i ≡ false
  unfolding bad bad5 zero5
  after_5 h = rw (after 8 12 i (omega arith), after 12 76 i (omega arith), after 76 92 i h)

  pub before_6 : i < 92 → bad s 6 i ≡ false
  unfolding bad bad6
  before_6 h = rw (before 92 380 i h)

  pub after_6 : 380 ≤ i → bad s 6 i ≡ false
  unfolding bad bad6
  after_6 h = rw (after 92 380 i h)

  pub before_7 : i < 92 → bad s 7 i ≡ false
  unfolding bad bad7
  before_7 h = rw (before 92 380 i h, before 380 510 i (omega arith))

  before_19 : i < 92 → bad19 s i ≡ false
  unfolding bad19
  before_19 h = rw (before 92 380 i h)

  after_19 : 380 ≤ i → bad19 s i ≡ false
  unfolding bad19
  after_19 h = rw (after 92 380 i h)

  from_6 : (k : ℕ) → i < 92 → bad s (6 + k) i ≡ false
  from_6 zero h = before_6 h
  from_6 (suc zero) h = before_7 h
  from_6 (suc (suc k)) h = sym (bad_else s i (6 + suc (suc k)) (omega arith)) ∙ and_no_right (eqb (6 + suc (suc k)) 19) (bad19 s i) (before_19 h)

  but_7 : (k : ℕ) → (k ≡ 1 → ⊥) → 380 ≤ i → bad s (6 + k) i ≡ false
  but_7 zero n h = after_6 h
  but_7 (suc zero) n h = absurd (n refl)
  but_7 (suc (suc k)) n h = sym (bad_else s i (6 + suc (suc k)) (omega arith)) ∙ and_no_right (eqb (6 + suc (suc k)) 19) (bad19 s i) (after_19 h)

  module _ (code : ℕ) (l : 3 ≤ code) (n₃ : code ≡ 3 → ⊥) (n₄ : code ≡ 4 → ⊥) (n₅ : code ≡ 5 → ⊥) where
    past_5 : 6 + (code - 6) ≡ code
    past_5 = omega arith

    pub before_rest : i < 92 → bad s code i ≡ false
    before_rest h = subst (λ (n : ℕ). bad s n i ≡ false) past_5 (from_6 (code - 6) h)

    pub after_rest : (code ≡ 7 → ⊥) → 380 ≤ i → bad s code i ≡ false
    after_rest n₇ h = subst (λ (n : ℕ). bad s n i ≡ false) past_5 (but_7 (code - 6) (λ e. n₇ (omega arith)) h)
