-- A race as a test by the order of its location: what a program asks. Assumes nothing.
use Rattle.std.specs.Prelude.{Bool, ◌&&◌, ◌||◌, cond, not, ℕ, ◌+◌, eqb, ltb}
use Rattle.cases.specs.Block.{lowest}
use Rattle.rules.specs.Kinds.{writing, accesses}
use Rattle.rules.specs.Order.{Order}
use Rattle.rules.specs.State.{State, Action, kind_of}

-- Reads or writes of one location, at least one a write.
abbrev pub conflict : Action → Action → Bool
conflict a b = (accesses (kind_of a) && accesses (kind_of b)) && eqb a.loc b.loc && (writing (kind_of a) || writing (kind_of b))

-- The items of actions j and k stand ordered neither way.
abbrev pub unordered : Order → ℕ → ℕ → Bool
unordered R j k = not (R (8 + j) (8 + k)) && not (R (8 + k) (8 + j))

-- Actions j and k race.
unfoldable pub races : State → ℕ → ℕ → Bool
races s j k = conflict (s.actions j) (s.actions k) && unordered (s.orders (s.actions j).loc) j k

-- The lowest action after j that races with it; the count where none does.
unfoldable pub partner : State → ℕ → ℕ
partner s j = lowest s.count (λ k. ltb j k && races s j k)

-- The lowest action with a partner; the count where none has one.
unfoldable pub opener : State → ℕ
opener s = lowest s.count (λ j. ltb (partner s j) s.count)

-- The two numbers of the first race, 255 where there is none.
abbrev pub first_of_race : State → ℕ
first_of_race s = cond (ltb (opener s) s.count) (opener s) 255

abbrev pub second_of_race : State → ℕ
second_of_race s = cond (ltb (opener s) s.count) (partner s (opener s)) 255
