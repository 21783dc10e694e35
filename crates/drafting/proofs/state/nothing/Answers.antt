use mathlib.Core.Path.{ap}
use Rattle.words.specs.Refusals.{first_code_of}
use Rattle.cases.specs.declared.CaseRead.{CaseRead}
use Rattle.cases.specs.Block.{read_of}
use Rattle.drafting.proofs.state.nothing.Goals as goal

pub returns : goal.returns
unfolding read_of first_code_of
returns c = ap (λ (r : CaseRead). r.case) c.read_case.ensures
