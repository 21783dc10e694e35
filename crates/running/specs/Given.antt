-- What the machine's functions are given, and what they give back. Assumes nothing.
use Rattle.std.specs.Prelude.{◌≡◌, true, List, ℕ, ◌+◌, ◌/◌, ◌%◌, ◌≤◌, ◌<◌, length, get_or}
use Rattle.cases.specs.declared.Case.{Case}
use Rattle.cases.specs.Case.{preset_of}
use Rattle.machine.specs.Shown.{Value, shown_value}
use Rattle.boards.specs.declared.Buffering.{Buffering}
use Rattle.boards.specs.Board.{opening}
use Rattle.boards.specs.Run.{ran}
use Rattle.boards.specs.Machine.{run, drain, allowed, moved}
use Rattle.running.specs.declared.Arrays.{Arrays}
use Rattle.running.specs.Shown.{unknown, shown}
use Rattle.running.specs.Valid.{Valid}

-- A location, and the log and the memory at their sizes.
pub record Seeing (s : Arrays) (l : ℕ) : Type 0 where
  pub loc : l < 8
  pub logged : s.logged ≤ 48
  pub log_long : length s.log ≡ 48
  pub memory_long : length s.memory ≡ 8

-- A processor and a location, and room in the log.
pub record Storing (s : Arrays) (p l : ℕ) : Type 0 where
  pub proc : p < 4
  pub loc : l < 8
  pub room : s.logged < 48
  pub log_long : length s.log ≡ 48
  pub memory_long : length s.memory ≡ 8

-- A machine, and a processor that a case can have.
pub record Looking (c : Case) (s : Arrays) (p : ℕ) : Type 0 where
  pub valid : Valid c s
  pub proc : p < 4

-- The same, where nothing bars the processor's next instruction.
pub record Glancing (k : Buffering) (c : Case) (s : Arrays) (p : ℕ) : Type 0 where
  pub valid : Valid c s
  pub proc : p < 4
  pub free : allowed k c (shown k c s) (run p) ≡ true

-- Room in the log, and nothing bars the processor's next instruction.
pub record Running (k : Buffering) (c : Case) (s : Arrays) (p : ℕ) : Type 0 where
  pub valid : Valid c s
  pub room : s.logged < 48
  pub free : allowed k c (shown k c s) (run p) ≡ true

-- r is the machine after it.
pub record Ran (k : Buffering) (c : Case) (s : Arrays) (p : ℕ) (r : Arrays) : Type 0 where
  pub shows : shown k c r ≡ ran k c (shown k c s) p
  pub valid : Valid c r
  pub logged : r.logged ≤ s.logged + 1

-- Buffer b of processor p holds a store.
pub record Draining (k : Buffering) (c : Case) (s : Arrays) (p b : ℕ) : Type 0 where
  pub valid : Valid c s
  pub buffer : b < 8
  pub free : allowed k c (shown k c s) (drain p b) ≡ true

-- r is the machine after its oldest store has reached memory.
pub record Drained (k : Buffering) (c : Case) (s : Arrays) (p b : ℕ) (r : Arrays) : Type 0 where
  pub shows : shown k c r ≡ moved k c (shown k c s) (drain p b)
  pub valid : Valid c r
  pub logged : r.logged ≡ s.logged

-- What each register starts with.
pub record Preset (c : Case) (values : List Value) : Type 0 where
  pub long : length values ≡ 32
  pub all : (n : ℕ) → n < 32 → shown_value (get_or values n unknown) ≡ preset_of c (n / 8) (n % 8)

-- r is the machine before the first step.
pub record Started (k : Buffering) (c : Case) (r : Arrays) : Type 0 where
  pub shows : shown k c r ≡ opening c
  pub valid : Valid c r
  pub logged : r.logged ≡ 0
