-- Releases that can never be committed, and where a search may leave a state that has one. Assumes nothing.
use Rattle.std.specs.Prelude.{Bool, not, ◌&&◌, ◌||◌, ℕ, ◌+◌, ◌*◌, leb}
use Rattle.words.specs.Small.{is_none, any, some_below}
use Rattle.rules.specs.Commit.{barred}
use Rattle.rules.specs.Kinds.{acquiring, releasing}
use Rattle.rules.specs.Result.{how_many}
use Rattle.rules.specs.State.{State, Action, kind_of, waiting, value_of, input_of}

-- The action is an acquire in the queue of processor p.
abbrev pub acquires : ℕ → Action → Bool
acquires p a = waiting p a && acquiring (kind_of a)

-- Action k is a release in the queue, its location is known and not held by its processor, and its processor has no acquire queued before it.
abbrev pub futile : State → ℕ → Bool
futile s k =
    is_none (s.actions k).result
    && (releasing (kind_of (s.actions k))
    && (not (any (λ n. is_none (value_of s n)) (s.actions k).inputs)
    && (barred (s.actions k).proc (kind_of (s.actions k)) (s.holders (input_of s (s.actions k) 0))
    && not (some_below k (λ j. acquires (s.actions k).proc (s.actions j))))))

-- How many actions are in the queues.
abbrev pub queued : State → ℕ
queued s = how_many s.count (λ k. is_none (s.actions k).result)

-- With n steps to go a run that takes them all commits each of 48 actions: so many are left to issue and to commit at most.
abbrev pub drains : ℕ → State → Bool
drains n s = leb (96 + queued s) (n + 2 * s.count)

-- A search may leave s with n steps to go: a release is never committed, so no run finishes; and the cut mark is set, or no run is cut.
unfoldable pub leaves : Bool → ℕ → State → Bool
leaves marked n s = some_below s.count (futile s) && (marked || drains n s)
