-- What the parts of an issue are given, and what they give back. Assumes nothing.
use Rattle.std.specs.Prelude.{◌≡◌, List, ℕ, ◌≤◌, ◌<◌, length, get_or}
use Rattle.words.specs.Small.{put}
use Rattle.cases.specs.declared.Case.{Case}
use Rattle.cases.specs.declared.Instr.{Instr}
use Rattle.rules.specs.Kinds.{assigns}
use Rattle.rules.specs.State.{given}
use Rattle.rules.specs.Issue.{renamed}
use Rattle.rules.specs.Step.{issue}
use Rattle.machine.specs.declared.Entry.{Entry}
use Rattle.machine.specs.Shown.{names_of}
use Rattle.machine.specs.Fit.{Fine}
use Rattle.machine.specs.Given.{Accepted}
use Rattle.machine.specs.Lent.{machine_of, Program}
use Rattle.issuing.specs.Issued.{Low}

-- Room for a new entry, its location, and the rows at their number.
pub record Joining (n : ℕ) (rows : List ℕ) (e : Entry) : Type 0 where
  pub room : n < 48
  pub rows_long : length rows ≡ 56
  pub loc : e.loc < 8

-- Room for a new entry, its processor and location, and the sets at their number.
pub record Keeping (sets : List ℕ) (n : ℕ) (e : Entry) : Type 0 where
  pub sets_long : length sets ≡ 21
  pub room : n < 48
  pub proc : e.proc < 4
  pub loc : e.loc < 8

-- A processor that a case can have, an instruction of a case, and the names at their size.
pub record Binding (n : ℕ) (names : List ℕ) (p : ℕ) (i : Instr) : Type 0 where
  pub issued : n ≤ 48
  pub names_long : length names ≡ 32
  pub proc : p < 4
  pub fine : Fine i

-- A processor and counts that a case can have, and the names at their size.
pub record Asking (n : ℕ) (counts names : List ℕ) (p : ℕ) : Type 0 where
  pub issued : n ≤ 48
  pub counted : get_or counts p 0 ≤ 12
  pub names_long : length names ≡ 32
  pub proc : p < 4

-- A processor, an action and an instruction that a case can have, and the names at their size, each low.
pub record Renaming (names : List ℕ) (p k : ℕ) (i : Instr) : Type 0 where
  pub names_long : length names ≡ 32
  pub names-low : Low names
  pub proc : p < 4
  pub action : k < 48
  pub fine : Fine i

-- r are the names once action k of processor p, of instruction i, has its register renamed.
pub record Renamed (names : List ℕ) (p k : ℕ) (i : Instr) (r : List ℕ) : Type 0 where
  pub long : length r ≡ 32
  pub low : Low r
  pub shows : (c : Case) → names_of c r ≡ put (names_of c names) p (renamed (names_of c names p) (assigns i) (given k))

-- Arrays of a case's program and of a machine that accepts an issue of processor p.
pub record Issuing (program places names acts rows sets : List ℕ) (n p : ℕ) : Type 0 where
  pub case : Case
  pub holders : List ℕ
  pub coded : Program case program
  pub accepted : Accepted case (machine_of n places names holders acts rows sets) (issue p)
