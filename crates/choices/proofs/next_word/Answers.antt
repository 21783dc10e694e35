use Rattle.choices.proofs.Next.{stay, jump}
use native.Mathlib.Omega.{arith}
use Prim.Native.Nat.{◌*◌}
use Rattle.choices.proofs.next_word.Goals as goal

pub returns-then-w-ge48 : goal.returns-then-w-ge48
returns-then-w-ge48 c = stay c.args.reads c.args.j c.args.to c.requires.from

pub returns-then-start-j : goal.returns-then-start-j
returns-then-start-j c = stay c.args.reads c.args.j c.args.to c.requires.from

pub returns-then-to-start : goal.returns-then-to-start
returns-then-to-start c =
    jump c.args.reads c.args.j c.args.to c.first_of-start.result c.args.to (omega (arith, c.if-w-ge48.false)) c.first_of-start.ensures c.requires.from (omega arith) (omega (arith, c.if-to-start.true))

pub returns-else-to-start : goal.returns-else-to-start
returns-else-to-start c =
    jump c.args.reads c.args.j c.args.to c.first_of-start.result (64 * c.first_of-start.result) (omega (arith, c.if-w-ge48.false)) c.first_of-start.ensures (omega (arith, c.if-start-j.false)) (omega (arith, c.if-to-start.false)) (omega arith)
