-- The order of one location, as a test on two items. Assumes nothing.
use Rattle.std.specs.Prelude.{ℕ, Bool, true, false, ◌&&◌, ◌||◌, ◌==◌}
use Rattle.words.specs.Small.{some_below}

-- `R a b`: item a stands before item b.
abbrev pub Order : Type 0
Order = ℕ → ℕ → Bool

-- Item a is p, or stands before it.
abbrev pub up_to : Order → ℕ → ℕ → Bool
up_to R a p = a == p || R a p

-- 'The order is closed transitively after each change': R with item i put after each item below n that passes the test P, closed.
unfoldable pub joined : Order → ℕ → ℕ → (ℕ → Bool) → Order
joined R i n P a b = R a b || ((b == i || R i b) && some_below n (λ p. P p && up_to R a p))

-- The same where the test passes, else R.
unfoldable pub joined_if : Bool → Order → ℕ → ℕ → (ℕ → Bool) → Order
joined_if true R i n P = joined R i n P
joined_if false R i n P = R
