-- One order over all items as rows of sets: item a is in row b if it stands before item b. Assumes nothing.
use Rattle.std.specs.Prelude.{◌≡◌, Bool, ◌&&◌, ◌||◌, cond, List, ℕ, ◌≤◌, ◌<◌, eqb, ltb, length, get_or}
use Rattle.std.specs.Int.Bits.{bit_or}
use Rattle.words.specs.Small.{some_below}
use Rattle.words.specs.Sets.{has}
use Rattle.rules.specs.Order.{Order, up_to, joined}

-- The order that 56 rows hold.
unfoldable pub order_of : List ℕ → Order
order_of rows a b = ltb b 56 && has (get_or rows b 0) a

-- x is the set of the numbers below n that pass the test P.
abbrev pub SetOf : ℕ → (ℕ → Bool) → ℕ → Type 0
SetOf n P x = (e : ℕ) → has x e ≡ (ltb e n && P e)

-- The mask has the items below n that pass the test P, and what stands before one of them in R.
abbrev pub Reaches : Order → ℕ → (ℕ → Bool) → ℕ → Type 0
Reaches R n P mask = (a : ℕ) → has mask a ≡ some_below n (λ p. P p && up_to R a p)

-- Row b once the mask is put before item i.
unfoldable pub joined_row : ℕ → ℕ → ℕ → ℕ → ℕ
joined_row row b i mask = cond (eqb b i || has row i) (bit_or row mask) row

-- The rows below b have the mask put before item i; the others are kept.
pub record JoinedTo (old new : List ℕ) (i mask b : ℕ) : Type 0 where
  pub low : (j : ℕ) → j < b → get_or new j 0 ≡ joined_row (get_or old j 0) j i mask
  pub rest : (j : ℕ) → b ≤ j → get_or new j 0 ≡ get_or old j 0

-- An item, a number of items, and the rows at their size.
pub record Joining (rows : List ℕ) (i n : ℕ) : Type 0 where
  pub item : i < 56
  pub low : n ≤ 56
  pub rows_long : length rows ≡ 56

-- Item i is put after the items of a set, all below n.
pub record Joined (old new : List ℕ) (i items n : ℕ) : Type 0 where
  pub size : length new ≡ 56
  pub joins : (P : ℕ → Bool) → SetOf n P items → order_of new ≡ joined (order_of old) i n P
