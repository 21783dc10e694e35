use mathlib.Core.Path.{sym}
use Prim.Native.Nat.{◌+◌, ◌*◌}
use native.Mathlib.Omega.{arith}
use lib.Dec.{leb}
use borrow.Author.Tests.{lt-leb}
use Rattle.sure.specs.Futile.{queued}
use Rattle.leaving.proofs.drains.Goals as goal

pub returns-then-n-m-lt96 : goal.returns-then-n-m-lt96
returns-then-n-m-lt96 c =
    let a = c.args in
    λ k s h q. sym (lt-leb (96 + queued s) (a.n + 2 * s.count) (omega (arith, q, c.if-n-m-lt96.true)))

pub returns : goal.returns
returns c =
    let a = c.args in
    λ k s h q. λ j. leb (96 + c.queue.ensures.1 k s h q j) (a.n + 2 * sym q j)
