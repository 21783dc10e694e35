use Rattle.machine.proofs.word.local_code.Goals as goal

pub returns-in-Constant : goal.returns-in-Constant
returns-in-Constant c = (cc, c.constant_code.ensures.1)

pub returns-in-Sum : goal.returns-in-Sum
returns-in-Sum c = (cc, c.coded.ensures.1)

pub returns-in-Difference : goal.returns-in-Difference
returns-in-Difference c = (cc, c.coded-in-Difference.ensures.1)

pub returns-in-Equal : goal.returns-in-Equal
returns-in-Equal c = (cc, c.coded-in-Equal.ensures.1)
