-- A machine and a case as they are lent: arrays of numbers. Assumes nothing.
use Rattle.std.specs.Prelude.{◌≡◌, List, ℕ, ◌+◌, ◌*◌, ◌%◌, ◌<◌, length, get_or}
use Rattle.cases.specs.declared.Case.{Case}
use Rattle.cases.specs.Case.{count_of, instr_at}
use Rattle.rules.specs.State.{State}
use Rattle.machine.specs.declared.Machine.{Machine}
use Rattle.machine.specs.Word.{instr_from}
use Rattle.machine.specs.Shown.{place_of, Presets}
use Rattle.machine.specs.Fit.{Fit}

-- The machine that these arrays are.
abbrev pub machine_of : ℕ → List ℕ → List ℕ → List ℕ → List ℕ → List ℕ → List ℕ → Machine
machine_of issued places names holders acts rows sets =
    record {
      issued = issued;
      places = places;
      names = names;
      holders = holders;
      acts = acts;
      rows = rows;
      sets = sets;
    }

-- The instructions of a case as numbers, that of processor p at place i at 12p + i.
pub record Program (c : Case) (program : List ℕ) : Type 0 where
  pub long : length program ≡ 48
  pub instr : (p i : ℕ) → p < 4 → i < count_of c p → instr_from (get_or program (12 * p + i) 0 % 8388608) ≡ instr_at c p i

-- What is asked of a case before a step, but for its memory.
pub record Lent (c : Case) (program counts masks presets : List ℕ) (procs locs : ℕ) : Type 0 where
  pub coded : Program c program
  pub counted : c.counts ≡ counts
  pub starts : Presets c masks presets
  pub present : c.procs ≡ procs
  pub located : c.locs ≡ locs

-- The state of a case with these counts and processors, as the place counters show it.
pub record Ending (c : Case) (s : State) (counts places : List ℕ) (procs : ℕ) : Type 0 where
  pub fit : Fit c
  pub present : c.procs ≡ procs
  pub counted : c.counts ≡ counts
  pub placed : s.places ≡ (λ q. place_of (get_or places q 0))
