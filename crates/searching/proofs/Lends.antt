-- What a valid machine and its case lend. Assumes nothing.
use mathlib.Core.Path.{refl}
use mathlib.Core.List.{List}
use Prim.Native.Nat.{ℕ}
use Rattle.cases.specs.declared.Case.{Case}
use Rattle.machine.specs.declared.Machine.{Machine}
use Rattle.machine.specs.Shown.{shown, Presets, Acts}
use Rattle.machine.specs.Valid.{Valid}
use Rattle.machine.specs.Lent.{Program, Lent, Ending}
use Rattle.openings.specs.Given.{EntriesIn}
use Rattle.openings.proofs.Opens.{entries_of}
use Rattle.choices.specs.Given.{Asking}
use Rattle.searching.specs.Ready.{Registers}

module _ (c : Case) (m : Machine) where
  pub presets : Presets c c.masks c.presets
  presets = record { masks = refl; presets = refl }

  pub acts : Acts c m.issued m.acts (shown c m)
  acts = record { count = refl; actions = refl }

  pub registers : Registers c (shown c m) c.masks c.presets m.names m.acts c.procs m.issued
  registers = record { present = refl; starts = presets; shows = acts; named = refl }

  module _ (v : Valid c m) where
    pub ending : Ending c (shown c m) c.counts m.places c.procs
    ending = record { fit = v.fit; present = refl; counted = refl; placed = refl }

    pub asking : Asking c.counts m.names m.holders c.procs m.issued
    asking = record { issued = v.issued; few = v.fit.procs; counted = v.fit.counts; names_long = v.names_long; holders_long = v.holders_long }

    module _ (program : List ℕ) (P : Program c program) where
      pub lent : Lent c program c.counts c.masks c.presets c.procs c.locs
      lent = record { coded = P; counted = refl; starts = presets; present = refl; located = refl }

      pub entries : EntriesIn c (shown c m) c.masks m.rows m.sets c.procs m.issued m.acts
      entries = entries_of c m v program c.counts c.masks c.presets c.procs c.locs lent
