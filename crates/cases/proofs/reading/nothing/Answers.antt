use lib.ListN.{replicate}
use Rattle.cases.proofs.reading.nothing.Goals as goal

pub returns : goal.returns
returns c = λ j. record { procs = 1; locs = 1; counts = replicate 4 0; masks = replicate 4 0; presets = replicate 32 0; memory = replicate 8 0; code = c.no_code.ensures j }
