-- A number in decimal. Assumes nothing.
use Rattle.std.specs.Prelude.{cond, List, [], ◌∷◌, ◌++◌, ℕ, zero, suc, ◌+◌, ◌/◌, ◌%◌, ltb}

-- The digits of n, as far as `most` of them reach.
unfoldable pub digits_within : ℕ → ℕ → List ℕ
digits_within zero n = []
digits_within (suc most) n = cond (ltb n 10) ((48 + n) ∷ []) (digits_within most (n / 10) ++ ((48 + n % 10) ∷ []))

-- The digits of n without leading zeros: never more than n + 1.
abbrev pub decimal : ℕ → List ℕ
decimal n = digits_within (suc n) n
