-- The steps of a state as fifty words of bits: words 0 to 47 the items that the commit of read w may name, word 48 the other actions
-- that may be committed, word 49 the processors that may issue. Assumes nothing.
use Rattle.std.specs.Prelude.{Bool, true, ◌&&◌, ◌||◌, not, cond, List, ℕ, ◌/◌, ◌%◌, eqb, ltb, get_or}
use Rattle.words.specs.Sets.{has}
use Rattle.cases.specs.declared.Case.{Case}
use Rattle.rules.specs.Kinds.{reading}
use Rattle.rules.specs.State.{State, kind_of}
use Rattle.rules.specs.Step.{step_code}
use Rattle.sure.specs.Spent.{Key, taking, issuing, step_by, Spent}

-- What bit e of word w stands for.
abbrev pub key_in : ℕ → ℕ → Key
key_in w e = cond (ltb w 48) (taking w e) (cond (eqb w 48) (taking e 0) (issuing e))

-- The key at a position: bit e of word w has position 64w + e.
abbrev pub key_at : ℕ → Key
key_at j = key_in (j / 64) (j % 64)

-- The action is of the word's sort: reads have words of their own.
abbrev pub sort_in : State → ℕ → ℕ → Bool
sort_in s w e = cond (ltb w 48) (reading (kind_of (s.actions w))) (cond (eqb w 48) (not (reading (kind_of (s.actions e)))) true)

-- Bit e of word w is a step that is accepted at s.
unfoldable pub opens : Case → State → ℕ → ℕ → Bool
opens c s w e = sort_in s w e && eqb (step_code c s (step_by s (key_in w e))) 0

-- The step at a position is accepted.
abbrev pub opens_at : Case → State → ℕ → Bool
opens_at c s j = opens c s (j / 64) (j % 64)

-- The steps that fifty words say are spent.
unfoldable pub spent_by : List ℕ → Spent
spent_by now (taking k e) = (ltb k 48 && has (get_or now k 0) e) || (eqb e 0 && has (get_or now 48 0) k)
spent_by now (issuing p) = has (get_or now 49 0) p
