use Rattle.machine.proofs.word.code_of.Goals as goal

pub returns-in-Read : goal.returns-in-Read
returns-in-Read c = (cc, c.coded.ensures.1)

pub returns-in-Write : goal.returns-in-Write
returns-in-Write c = (cc, c.coded-in-Write.ensures.1)

pub returns-in-Local : goal.returns-in-Local
returns-in-Local c = (cc, c.local_code.ensures.1)

pub returns-in-Branch : goal.returns-in-Branch
returns-in-Branch c = (cc, c.coded-in-Branch.ensures.1)

pub returns-in-Goto : goal.returns-in-Goto
returns-in-Goto c = (cc, c.coded-in-Goto.ensures.1)

pub returns-in-Acquire : goal.returns-in-Acquire
returns-in-Acquire c = (cc, c.coded-in-Acquire.ensures.1)

pub returns-in-Release : goal.returns-in-Release
returns-in-Release c = (cc, c.coded-in-Release.ensures.1)
