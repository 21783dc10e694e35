-- What the parts of a commit are given. Assumes nothing.
use Rattle.std.specs.Prelude.{◌≡◌, List, ℕ, ◌≤◌, ◌<◌, length, get_or}
use Rattle.cases.specs.declared.Case.{Case}
use Rattle.rules.specs.State.{State}
use Rattle.rules.specs.Step.{commit}
use Rattle.machine.specs.declared.Entry.{Entry}
use Rattle.machine.specs.Shown.{holder_of, shown_entry, orders_of}
use Rattle.machine.specs.Kept.{Kept}
use Rattle.machine.specs.Valid.{ValidEntry}
use Rattle.machine.specs.Given.{Accepted}
use Rattle.machine.specs.Lent.{machine_of}
use Rattle.sights.specs.Sights.{Names}
use Rattle.committing.specs.Committed.{Entries}

-- A processor and a number of actions that a case can have, and the holders at their size.
pub record Asking (n : ℕ) (holders : List ℕ) (p : ℕ) : Type 0 where
  pub issued : n ≤ 48
  pub holders_long : length holders ≡ 8
  pub proc : p < 4

-- Valid entries, and a state that has these sets, orders and holders.
pub record Arrays (c : Case) (s : State) (n : ℕ) (acts rows sets holders : List ℕ) (locs : ℕ) : Type 0 where
  pub entries : Entries c n acts
  pub kept : Kept c s sets
  pub orders : s.orders ≡ orders_of c s.actions rows
  pub locks : s.holders ≡ (λ l. holder_of (get_or holders l 0))
  pub present : c.locs ≡ locs

-- One entry k, which is e, of processor p.
pub record AskingOne (holders : List ℕ) (e : Entry) (p k : ℕ) : Type 0 where
  pub holders_long : length holders ≡ 8
  pub proc : p < 4
  pub low : k < 48
  pub loc : e.loc < 8

-- A state that these arrays show, in which action k is the entry e.
pub record Shows (c : Case) (s : State) (masks rows sets holders : List ℕ) (locs : ℕ) (e : Entry) (k : ℕ) : Type 0 where
  pub names : Names c s masks sets
  pub low : s.count ≤ 48
  pub orders : s.orders ≡ orders_of c s.actions rows
  pub locks : s.holders ≡ (λ l. holder_of (get_or holders l 0))
  pub present : c.locs ≡ locs
  pub there : k < s.count
  pub action : s.actions k ≡ shown_entry c e
  pub entry : ValidEntry c e

-- A processor that a case can have, and the holders at their size.
pub record Locking (holders : List ℕ) (p : ℕ) : Type 0 where
  pub proc : p < 4
  pub holders_long : length holders ≡ 8

-- An item, and the rows at their number.
pub record Acquiring (n i : ℕ) (rows : List ℕ) : Type 0 where
  pub issued : n ≤ 48
  pub item : i < 56
  pub rows_long : length rows ≡ 56

-- A processor and an action that a case can have, and the sets at their number.
pub record Keeping (sets : List ℕ) (p k : ℕ) : Type 0 where
  pub sets_long : length sets ≡ 21
  pub proc : p < 4
  pub action : k < 48

-- Arrays of a machine that accepts the commit of action k of processor p.
pub record Committing (places holders acts rows sets : List ℕ) (n p k src : ℕ) : Type 0 where
  pub case : Case
  pub names : List ℕ
  pub accepted : Accepted case (machine_of n places names holders acts rows sets) (commit p k src)
