use mathlib.Core.Path.{refl}
use Rattle.womm.proofs.Marks.{mark}
use Rattle.womm.proofs.womm_read_text.Goals as goal

pub returns : goal.returns
returns c =
    let read = c.text_to_block-typed in
    record { answer = read.result; blocks = read.ensures; code = refl; line = refl; usual = mark read.result.usual }
