-- Quiet reads: the sources of such a read cannot grow, so a search may take it at once with each of them. Assumes nothing.
use Rattle.std.specs.Prelude.{Bool, not, ◌&&◌, ℕ, eqb}
use Rattle.words.specs.Small.{is_none, is, all, counting, some_below}
use Rattle.cases.specs.declared.Case.{Case}
use Rattle.cases.specs.Case.{count_of}
use Rattle.rules.specs.Kinds.{reading, writing}
use Rattle.rules.specs.State.{State, Action, kind_of}

-- Every place counter is at its processor's count.
unfoldable pub ended : Case → State → Bool
ended c s = all (λ p. is (count_of c p) (s.places p)) (counting 0 c.procs)

-- The action is a write to location l in the queue.
abbrev pub pending : ℕ → Action → Bool
pending l a = is_none a.result && (writing (kind_of a) && eqb a.loc l)

-- Action k is a read, nothing is issued any more and no write to its location is queued.
unfoldable pub quiet : Case → State → ℕ → Bool
quiet c s k = reading (kind_of (s.actions k)) && (ended c s && not (some_below s.count (λ j. pending (s.actions k).loc (s.actions j))))
