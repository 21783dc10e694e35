use mathlib.Core.Bool.{not}
use lib.Dec.{eqb}
use Rattle.judging.specs.Draft.{case_from}
use Rattle.reading.proofs.reader.accepted.Goals as goal

pub returns : goal.returns
unfolding case_from
returns c = λ d sh j. record { code = 0; line = c.args.line; usual = not (eqb (sh.dropped j) 0); case = record { procs = sh.procs j; locs = sh.locs j; counts = sh.counts j; masks = sh.masks j; presets = sh.presets j; memory = sh.memory j; code = sh.code j } }
