-- An action that may join a set of reads and locals that nothing outside it looks at. Assumes nothing.
use Rattle.std.specs.Prelude.{◌≡◌, true, false, ◌&&◌, not, ℕ}
use Rattle.words.specs.Small.{some_below}
use Rattle.words.specs.Sets.{has}
use Rattle.rules.specs.Kinds.{assigns}
use Rattle.rules.specs.State.{State, kind_of}
use Rattle.sure.specs.Dead.{ignorable, holds_on, awaits}

-- Action k is a read or a local, its register has a newer name, and no queued action outside the set reads what it gives.
pub record Joins (s : State) (inner k : ℕ) : Type 0 where
  pub kinds : ignorable (kind_of (s.actions k)) ≡ true
  pub renamed : holds_on s k (assigns (s.actions k).instr) ≡ false
  pub unread : some_below s.count (λ j. awaits k (s.actions j) && not (has inner j)) ≡ false
