-- Sets of items that the machine keeps ready, and what each has: what a walk over all items finds. Assumes nothing.
use Rattle.std.specs.Prelude.{◌≡◌, Bool, false, not, List, ℕ, ◌+◌, ◌<◌, eqb, length, get_or}
use Rattle.words.specs.Small.{is_none}
use Rattle.cases.specs.declared.Case.{Case}
use Rattle.rules.specs.State.{State, kind_of, waiting, item_is, item_value}
use Rattle.rules.specs.Commit.{writes}
use Rattle.orders.specs.Rows.{SetOf}

-- Item e is that of an action of kind q.
abbrev pub of_kind : State → ℕ → ℕ → Bool
of_kind s q e = item_is false (λ a. eqb (kind_of a) q) s e

-- Item e is that of an action in the queue of processor p.
abbrev pub queued : State → ℕ → ℕ → Bool
queued s p e = item_is false (waiting p) s e

-- Item e has its value.
abbrev pub has_value : Case → State → ℕ → Bool
has_value c s e = not (is_none (item_value c s e))

-- Sets 0 to 7 are the write items of each location, 8 to 15 the items of each kind, 16 to 19 the queue of each processor, 20 the items that have their value.
pub record Kept (c : Case) (s : State) (sets : List ℕ) : Type 0 where
  pub long : length sets ≡ 21
  pub writes : (l : ℕ) → l < 8 → SetOf (8 + s.count) (writes s l) (get_or sets l 0)
  pub kinds : (q : ℕ) → q < 8 → SetOf (8 + s.count) (of_kind s q) (get_or sets (8 + q) 0)
  pub queues : (p : ℕ) → p < 4 → SetOf (8 + s.count) (queued s p) (get_or sets (16 + p) 0)
  pub given : SetOf (8 + s.count) (has_value c s) (get_or sets 20 0)
