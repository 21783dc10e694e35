use Prim.Native.Nat.{◌+◌}
use native.Mathlib.Omega.{arith}
use lib.ListN.{get_or}
use lib.Seq.{get_or-set_other}
use Rattle.std.proofs.lemmas.Nat.{or_comm}
use Rattle.committing.proofs.Keeping.{keeps_commit}
use Rattle.committing.proofs.settle_sets.Goals as goal

pub returns : goal.returns
returns c =
    let a = c.args in
    rw (get_or-set_other a.sets.now (16 + a.p) 20 c.minus.result 0 (λ q. omega (arith, c.requires.proc, q)), or_comm (get_or a.sets.now 20 0) c.one-bit.result)
    (keeps_commit a.sets.now a.p a.k c.one-bit.result c.minus.result c.one-bit.ensures c.minus.ensures c.requires.proc)
