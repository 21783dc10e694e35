use mathlib.Core.Path.{◌≡◌, ap, ◌∙◌}
use Prim.Native.Nat.{ℕ, ◌%◌}
use native.Mathlib.Omega.{arith}
use Rattle.cases.specs.Block.{weighted}
use Rattle.cases.proofs.Decoding.{weighted_none, weighted_more}
use borrow.Author.Rules.{rules}
use Rattle.cases.proofs.bytes.check.Goals as goal

pub loop-i-init : goal.loop-i-init
loop-i-init c = (search rules, weighted_none c.args.block.now, search rules)

pub overflow_add-sum : goal.overflow_add-sum
overflow_add-sum c = omega (arith, c.weighed-sum.ensures.low)

pub loop-i-preserved : goal.loop-i-preserved
loop-i-preserved c =
    let s = c.args.block.now in
    (search rules, weighted_more s c.loop-i.i c.loop-i.sum c.weighed-sum.result c.loop-i.invariant.1 (cc), omega (arith, c.weighed-sum.ensures.low))

pub returns : goal.returns
returns c =
    let q : c.loop-i.i ≡ 510 = omega arith in
    record { is = ap (λ (n : ℕ). n % 65521) (c.loop-i.invariant.1 ∙ ap (weighted c.args.block.now) q); low = search rules }
