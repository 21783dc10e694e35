-- What the tests of leaving off are given. Assumes nothing.
use Rattle.std.specs.Prelude.{◌≡◌, List, ℕ, ◌<◌, length, get_or}
use Rattle.words.specs.Small.{or_zero}
use Rattle.cases.specs.declared.Case.{Case}
use Rattle.rules.specs.State.{State, value_of}
use Rattle.machine.specs.declared.Entry.{Entry}
use Rattle.machine.specs.Shown.{name_of, holder_of, shown_entry}
use Rattle.sights.specs.Sights.{Names}

-- The number of an action, and the holders at their size.
pub record Testing (holders : List ℕ) (k : ℕ) : Type 0 where
  pub holders_long : length holders ≡ 8
  pub low : k < 48

-- A state that these arrays show, in which action k is the entry e, and x the value of its first register.
pub record Tested (c : Case) (s : State) (masks sets holders : List ℕ) (e : Entry) (x k : ℕ) : Type 0 where
  pub names : Names c s masks sets
  pub locks : s.holders ≡ (λ l. holder_of (get_or holders l 0))
  pub there : k < s.count
  pub action : s.actions k ≡ shown_entry c e
  pub input : x ≡ or_zero (value_of s (name_of c e.first))
