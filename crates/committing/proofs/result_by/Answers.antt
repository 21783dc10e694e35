use Rattle.committing.proofs.result_by.Goals as goal

pub returns-in-Local : goal.returns-in-Local
returns-in-Local c = cc
