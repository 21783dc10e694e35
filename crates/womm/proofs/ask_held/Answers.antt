use mathlib.Core.Path.{refl}
use Rattle.asking.specs.Asked.{answer_of}
use Rattle.womm.proofs.Marks.{mark}
use Rattle.womm.proofs.ask_held.Goals as goal

pub returns : goal.returns
returns c =
    let asked = c.ask-answer in
    record { answer = answer_of asked.result; asked = asked.ensures; code = refl; yes = mark asked.result.yes; long = refl; cut = mark asked.result.cut }
