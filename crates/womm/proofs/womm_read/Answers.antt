use mathlib.Core.Path.{ap, ◌∙◌}
use Rattle.cases.specs.declared.CaseRead.{CaseRead}
use Rattle.womm.specs.Exports.{mark_of}
use Rattle.womm.proofs.Marks.{mark}
use Rattle.womm.proofs.womm_read.Goals as goal

pub returns : goal.returns
returns c =
    let read = c.read_case-read in
    record {
      code = ap (λ (r : CaseRead). r.code) read.ensures;
      position = ap (λ (r : CaseRead). r.position) read.ensures;
      usual = mark read.result.usual ∙ ap (λ (r : CaseRead). mark_of r.usual) read.ensures;
    }
