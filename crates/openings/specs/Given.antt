-- What the questions of what is accepted are given. Assumes nothing.
use Rattle.std.specs.Prelude.{◌≡◌, List, ℕ, ◌≤◌, ◌<◌, length, get_or}
use Rattle.cases.specs.declared.Case.{Case}
use Rattle.rules.specs.State.{State, unissued}
use Rattle.machine.specs.declared.Entry.{Entry}
use Rattle.machine.specs.Shown.{shown_entry, orders_of, Presets, Acts}
use Rattle.machine.specs.Kept.{Kept}
use Rattle.machine.specs.Valid.{ValidEntry}
use Rattle.committing.specs.Committed.{Entries}
use Rattle.committing.specs.Given.{Arrays}

-- An entry, which may be action k, and the processors that a case can have.
pub record OfEntry (procs : ℕ) (e : Entry) (k : ℕ) : Type 0 where
  pub few : procs ≤ 4
  pub low : k < 48
  pub loc : e.loc < 8

-- The state of a case with these masks and processors, as the rows and the sets show it; its action k is the entry e.
pub record EntryIn (c : Case) (s : State) (masks rows sets : List ℕ) (procs : ℕ) (e : Entry) (k : ℕ) : Type 0 where
  pub presets : c.masks ≡ masks
  pub present : c.procs ≡ procs
  pub kept : Kept c s sets
  pub orders : s.orders ≡ orders_of c s.actions rows
  pub low : s.count ≤ 48
  pub ends : (j : ℕ) → s.count ≤ j → s.actions j ≡ unissued
  pub there : k < s.count
  pub valid : ValidEntry c e
  pub same : s.actions k ≡ shown_entry c e

-- A number of issued actions, and the processors that a case can have.
pub record Entered (n procs : ℕ) : Type 0 where
  pub issued : n ≤ 48
  pub few : procs ≤ 4

-- The state of a case with these masks and processors, as the words, the rows and the sets show it.
pub record EntriesIn (c : Case) (s : State) (masks rows sets : List ℕ) (procs n : ℕ) (acts : List ℕ) : Type 0 where
  pub presets : c.masks ≡ masks
  pub present : c.procs ≡ procs
  pub kept : Kept c s sets
  pub orders : s.orders ≡ orders_of c s.actions rows
  pub shows : Acts c n acts s
  pub entries : Entries c n acts

-- A number of issued actions, the processors that a case can have, and the holders at their number.
pub record Committing (n procs : ℕ) (holders : List ℕ) : Type 0 where
  pub issued : n ≤ 48
  pub few : procs ≤ 4
  pub holders_long : length holders ≡ 8

-- The same, and an issued action k.
pub record CommittingOne (n procs : ℕ) (holders : List ℕ) (k : ℕ) : Type 0 where
  pub issued : n ≤ 48
  pub few : procs ≤ 4
  pub holders_long : length holders ≡ 8
  pub there : k < n

-- The same, and one of the 49 words of commits.
pub record Word (n procs : ℕ) (holders : List ℕ) (w : ℕ) : Type 0 where
  pub issued : n ≤ 48
  pub few : procs ≤ 4
  pub holders_long : length holders ≡ 8
  pub low : w < 49

-- The state of a case with these presets, processors and locations, as the arrays of a machine show it.
pub record ArraysIn (c : Case) (s : State) (masks presets : List ℕ) (procs locs n : ℕ) (acts rows sets holders : List ℕ) : Type 0 where
  pub starts : Presets c masks presets
  pub present : c.procs ≡ procs
  pub shows : Acts c n acts s
  pub arrays : Arrays c s n acts rows sets holders locs

-- Numbers of a set from k on, below an end.
pub record Upto (k end : ℕ) : Type 0 where
  pub from : k ≤ end
  pub upto : end ≤ 48

-- Counts, processors and a number of actions that a case can have, and the names at their number.
pub record Issuing (counts names : List ℕ) (procs n : ℕ) : Type 0 where
  pub issued : n ≤ 48
  pub few : procs ≤ 4
  pub counted : (p : ℕ) → get_or counts p 0 ≤ 12
  pub names_long : length names ≡ 32
