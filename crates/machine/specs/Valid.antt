-- What holds of every machine that is reached. Assumes nothing.
use Rattle.std.specs.Prelude.{◌≡◌, true, ◌⊎◌, ℕ, ◌≤◌, ◌<◌, length, get_or}
use Rattle.cases.specs.declared.Case.{Case}
use Rattle.runs.specs.Reachable.{Reachable}
use Rattle.rules.specs.Kinds.{kind, accesses}
use Rattle.oneorder.specs.OneOrder.{womm_one}
use Rattle.machine.specs.declared.Entry.{Entry}
use Rattle.machine.specs.declared.Machine.{Machine}
use Rattle.machine.specs.Word.{entry_of}
use Rattle.machine.specs.Shown.{shown_one, shown}
use Rattle.machine.specs.Fit.{Fine, Fit}
use Rattle.machine.specs.Kept.{Kept}

pub record ValidEntry (c : Case) (e : Entry) : Type 0 where
  pub fine : Fine e.instr
  pub place : e.place < 12
  pub loc : e.loc < 8
  pub present : accesses (kind e.instr) ≡ true → e.loc < c.locs

-- A place counter is undefined or at most 12.
abbrev pub ValidPlace : ℕ → Type 0
ValidPlace n = (n ≡ 255) ⊎ (n ≤ 12)

pub record Valid (c : Case) (m : Machine) : Type 0 where
  pub fit : Fit c
  pub issued : m.issued ≤ 48
  pub acts_long : length m.acts ≡ 48
  pub places_long : length m.places ≡ 4
  pub names_long : length m.names ≡ 32
  pub holders_long : length m.holders ≡ 8
  pub rows_long : length m.rows ≡ 56
  pub places : (p : ℕ) → p < 4 → ValidPlace (get_or m.places p 0)
  pub names : (n : ℕ) → n < 32 → get_or m.names n 0 < 80
  pub entries : (k : ℕ) → k < m.issued → ValidEntry c (entry_of (get_or m.acts k 0))
  pub kept : Kept c (shown c m) m.sets
  -- by accepted steps, of the rules with one order
  pub reached : Reachable (womm_one c) (shown_one c m)
