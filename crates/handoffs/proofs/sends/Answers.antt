use Rattle.handoffs.proofs.Parts.{word_sent, lock_sent}
use Rattle.handoffs.proofs.sends.Goals as goal

-- A write, or the lock. Assumes nothing.
pub returns-then-d-lt4 : goal.returns-then-d-lt4
returns-then-d-lt4 c = word_sent c.args.d c.if-d-lt4.true

pub returns-else-d-lt4 : goal.returns-else-d-lt4
returns-else-d-lt4 c = lock_sent c.args.d c.if-d-lt4.false c.locks.ensures
