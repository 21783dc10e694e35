-- The instructions of the first processors, one processor more. Assumes nothing.
use mathlib.Core.Path.{◌≡◌, refl, ap, sym, ◌∙◌}
use mathlib.Core.List.{List}
use Prim.Native.Nat.{ℕ, ◌+◌}
use native.Mathlib.Numerals.{add-one}
use lib.ListN.{get_or}
use Rattle.judging.specs.Places.{instrs_before}

pub sum_none : (counts : List ℕ) → 0 ≡ instrs_before counts 0
unfolding instrs_before
sum_none counts = refl

pub sum_more : (counts : List ℕ) (i sum : ℕ) → sum ≡ instrs_before counts i → sum + get_or counts i 0 ≡ instrs_before counts (i + 1)
unfolding instrs_before
sum_more counts i sum h = ap (λ (n : ℕ). n + get_or counts i 0) h ∙ ap (instrs_before counts) (sym (add-one i))
