-- What a search is given. Assumes nothing.
use Rattle.std.specs.Prelude.{◌≡◌, Bool, false, List, ℕ, ◌≤◌, ◌<◌, length}
use Rattle.cases.specs.declared.Case.{Case}
use Rattle.clauses.specs.declared.Asked.{Asked}
use Rattle.clauses.specs.Wanted.{Askable}
use Rattle.runs.specs.Reachable.{Reachable}
use Rattle.rules.specs.State.{State}
use Rattle.rules.specs.Step.{step_code}
use Rattle.rules.specs.Womm.{womm}
use Rattle.sure.specs.Sure.{forward}
use Rattle.sure.specs.Spent.{step_by, Rested}
use Rattle.machine.specs.declared.Machine.{Machine}
use Rattle.machine.specs.Shown.{shown, names_of, Presets, Acts}
use Rattle.machine.specs.Lent.{machine_of, Program}
use Rattle.machine.specs.Valid.{Valid}
use Rattle.records.specs.Buffer.{Held}
use Rattle.spending.specs.Words.{spent_by, key_at}
use Rattle.choices.specs.Given.{Scanning, Sourcing}
use Rattle.searching.specs.declared.Tally.{Tally}

-- A machine that accepts the step at position i, where i is a position.
pub record Entering (c : Case) (m : Machine) (i : ℕ) : Type 0 where
  pub valid : Valid c m
  pub fits : i < 3200 → step_code c (shown c m) (step_by (shown c m) (key_at i)) ≡ 0

-- Arrays of a case's program and of such a machine.
pub record EnteringBy (program places names holders acts rows sets : List ℕ) (n i : ℕ) : Type 0 where
  pub case : Case
  pub coded : Program case program
  pub entering : Entering case (machine_of n places names holders acts rows sets) i

-- Counts, processors and a number of actions that a case can have, the names, holders and words of the spent steps at their number, and positions; where there are sources, all of one word of a read.
pub record Choosing (counts names holders : List ℕ) (procs n : ℕ) (spent : List ℕ) (sources at to : ℕ) : Type 0 where
  pub scanning : Scanning counts names holders procs n spent at to
  pub word : (sources ≡ 0 → ⊥) → Sourcing n spent at to

-- The program of a case, a machine that is reached and accepts the step at position i, with at most 96 steps to go after it, clauses that can be asked, spent steps that are accepted at the machine, and a buffer with room so far.
pub record Ready (c : Case) (program : List ℕ) (m : Machine) (i n : ℕ) (ahead : Bool) (asked : Asked) (spent : List ℕ) (bytes : List ℕ) (y : Tally) : Type 0 where
  pub coded : Program c program
  pub entering : Entering c m i
  pub reached : Reachable (womm c) (shown c m)
  pub forwards : ahead ≡ forward c
  pub few : n ≤ 96
  pub asks : Askable asked
  pub long : length spent ≡ 50
  pub rested : Rested c (shown c m) (spent_by spent)
  pub room : y.full ≡ false
  pub held : Held bytes y.count

-- Processors and a number of actions that a case can have, clauses that can be asked, and a buffer with so many outcomes.
pub record Finishing (procs n : ℕ) (asked : Asked) (bytes : List ℕ) (count : ℕ) : Type 0 where
  pub few : procs ≤ 4
  pub issued : n ≤ 48
  pub asks : Askable asked
  pub held : Held bytes count

-- The state of a case whose registers these arrays give.
pub record Registers (c : Case) (s : State) (masks presets names acts : List ℕ) (procs n : ℕ) : Type 0 where
  pub present : c.procs ≡ procs
  pub starts : Presets c masks presets
  pub shows : Acts c n acts s
  pub named : s.names ≡ names_of c names
