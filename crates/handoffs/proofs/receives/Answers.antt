use Rattle.handoffs.proofs.Parts.{word_read, lock_read}
use Rattle.handoffs.proofs.receives.Goals as goal

-- A read, or the lock. Assumes nothing.
pub returns-then-d-lt4 : goal.returns-then-d-lt4
returns-then-d-lt4 c = word_read c.args.d c.args.k c.if-d-lt4.true

pub returns-else-d-lt4 : goal.returns-else-d-lt4
returns-else-d-lt4 c = lock_read c.args.d c.args.k c.if-d-lt4.false c.locks.ensures
