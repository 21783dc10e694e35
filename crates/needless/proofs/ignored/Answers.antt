use borrow.Author.Rules.{rules}
use Rattle.needless.proofs.Ignoring.{with_one, ignored_none, ignored_more}
use native.Mathlib.Omega.{arith}
use lib.Bits.{bit_or}
use Prim.Native.Nat.{◌<◌, ◌-◌}
use Rattle.needless.proofs.ignored.Goals as goal

pub loop-k-init : goal.loop-k-init
loop-k-init c = (search rules, λ k s h n. ignored_none s)

pub loop-k-preserved : goal.loop-k-preserved
loop-k-preserved c = (omega (arith, c.loop-k.invariant.0), c.loop-k.invariant.1)

pub loop-k-preserved-then-may_join : goal.loop-k-preserved-then-may_join
loop-k-preserved-then-may_join c = (
  omega (arith, c.loop-k.invariant.0),
  λ k s h n.
      let l : c.loop-k.k - 1 < s.count = omega (arith, c.loop-k.invariant.0, h.count, c.loop-k-test.true) in
      ignored_more s c.loop-k.inner (c.loop-k.k - 1) (bit_or c.loop-k.inner c.one-inner.result) l (c.loop-k.invariant.1 k s h n) (λ i. with_one c.loop-k.inner (c.loop-k.k - 1) c.one-inner.result i c.one-inner.ensures) (c.may_join.ensures k s h n c.if-may_join.true),
)

pub returns : goal.returns
returns c = λ k s h n. c.loop-k.invariant.1 k s h n
