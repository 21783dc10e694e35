use Rattle.issuing.proofs.place_after.Goals as goal

pub returns-in-Goto : goal.returns-in-Goto
returns-in-Goto c = cc
