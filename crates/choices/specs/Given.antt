-- What the parts of a choice are given. Assumes nothing.
use Rattle.std.specs.Prelude.{◌≡◌, List, ℕ, ◌/◌, ◌≤◌, ◌<◌, length, get_or}
use Rattle.cases.specs.declared.Case.{Case}
use Rattle.machine.specs.Fit.{Fit}

-- A case, and a processor that it can have.
pub record Turning (c : Case) (p : ℕ) : Type 0 where
  pub fit : Fit c
  pub proc : p < 4

-- A number of issued actions, the processors that a case can have, and the names at their number.
pub record Naming (n procs : ℕ) (names : List ℕ) : Type 0 where
  pub issued : n ≤ 48
  pub few : procs ≤ 4
  pub names_long : length names ≡ 32

-- Positions from j on, below an end.
pub record Span (j end : ℕ) : Type 0 where
  pub from : j ≤ end
  pub upto : end ≤ 3200

-- Positions from j on, below an end, all of one word.
pub record Stretch (j end : ℕ) : Type 0 where
  pub from : j ≤ end
  pub upto : end ≤ 3200
  pub one : (i : ℕ) → j ≤ i → i < end → i / 64 ≡ j / 64

-- Counts, processors and a number of actions that a case can have, and the names and holders at their number.
pub record Asking (counts names holders : List ℕ) (procs n : ℕ) : Type 0 where
  pub issued : n ≤ 48
  pub few : procs ≤ 4
  pub counted : (p : ℕ) → get_or counts p 0 ≤ 12
  pub names_long : length names ≡ 32
  pub holders_long : length holders ≡ 8

-- The same, the positions from `at` to `to`, and the words of the spent steps at their number.
pub record Scanning (counts names holders : List ℕ) (procs n : ℕ) (spent : List ℕ) (at to : ℕ) : Type 0 where
  pub asking : Asking counts names holders procs n
  pub rising : at ≤ to
  pub upto : to ≤ 3200
  pub long : length spent ≡ 50

-- The same as the first, with at most 96 steps to go.
pub record Going (counts names holders : List ℕ) (procs n left : ℕ) : Type 0 where
  pub asking : Asking counts names holders procs n
  pub few : left ≤ 96

-- A number of actions that a case can have, positions of one word of a read, up to its end, and the words of the spent steps at their number.
pub record Sourcing (n : ℕ) (spent : List ℕ) (at to : ℕ) : Type 0 where
  pub issued : n ≤ 48
  pub low : at / 64 < 48
  pub stretch : Stretch at to
  pub long : length spent ≡ 50
