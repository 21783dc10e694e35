use Prim.Native.Nat.{◌/◌}
use borrow.Author.Tests.{lt-ltb, le-ltb}
use Rattle.choices.proofs.source_at.Goals as goal

pub returns-then-j-lt48 : goal.returns-then-j-lt48
returns-then-j-lt48 c = rw (lt-ltb (c.args.j / 64) 48 c.if-j-lt48.true)

pub returns-else-j-lt48 : goal.returns-else-j-lt48
returns-else-j-lt48 c = rw (le-ltb (c.args.j / 64) 48 c.if-j-lt48.false)
