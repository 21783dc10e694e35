use mathlib.Core.Path.{refl}
use Rattle.listing.specs.Outcomes.{answer_of}
use Rattle.womm.proofs.Marks.{mark}
use Rattle.womm.proofs.womm_outcomes.Goals as goal

pub returns : goal.returns
returns c =
    let outcomes = c.outcomes-listed in
    record { answer = answer_of outcomes.result; list = outcomes.ensures; code = refl; count = refl; cut = mark outcomes.result.cut }
