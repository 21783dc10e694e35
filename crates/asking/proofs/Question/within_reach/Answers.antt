use mathlib.Core.Path.{refl}
use Rattle.clauses.specs.Wanted.{wanted}
use Rattle.machine.specs.Shown.{shown}
use Rattle.searching.proofs.Starts.{ready_empty, explored_empty, searched_start}
use Rattle.asking.proofs.Within.{ready_ask, reach_of}
use Rattle.asking.proofs.Question.within_reach.Goals as goal

pub explore-tally-requires : goal.explore-tally-requires
explore-tally-requires c = ready_empty c.default.result c.default.ensures (ready_ask c.requires refl)

pub returns : goal.returns
returns c =
    let a = c.args in
    reach_of a.self.now.case (wanted a.self.now.asked) (shown a.self.now.case a.m.now) a.n refl (searched_start (explored_empty c.default.result c.default.ensures c.explore-tally.ensures))
