use mathlib.Core.Path.{sym, ◌∙◌}
use Prim.Native.Nat.{◌+◌}
use native.Mathlib.Omega.{arith}
use native.Mathlib.Decide.{dec_lt}
use borrow.Author.Count.{below_more}
use Rattle.cases.specs.Block.{bad}
use Rattle.cases.proofs.Lowest.{lowest_is, none-lowest}
use Rattle.cases.proofs.Skipping.{passed}
use Rattle.cases.proofs.faults.lowest.Goals as goal

pub loop-i-init : goal.loop-i-init
loop-i-init c =
    let a = c.args in
    (c.skip-i.ensures.within, passed (bad a.block.now a.code) c.start_of.result c.skip-i.result (c.start_of.ensures.none_before a.block.now) c.skip-i.ensures)

pub returns-then-bad : goal.returns-then-bad
returns-then-bad c =
    let a = c.args in
    (lowest_is 510 (bad a.block.now a.code) c.loop-i.i c.loop-i.invariant.0 c.loop-i.invariant.1 (λ h. sym c.bad.ensures ∙ c.if-bad.true), omega (arith, c.end_of-end.ensures.within))

pub loop-i-preserved : goal.loop-i-preserved
loop-i-preserved c =
    let a = c.args in
    (c.skip-i-in-loop-i.ensures.within, passed (bad a.block.now a.code) (c.loop-i.i + 1) c.skip-i-in-loop-i.result (below_more _ _ c.loop-i.invariant.1 (sym c.bad.ensures ∙ c.if-bad.false)) c.skip-i-in-loop-i.ensures)

pub returns : goal.returns
returns c =
    let a = c.args in
    (none-lowest 510 (bad a.block.now a.code) (λ k h. elim (dec_lt k c.loop-i.i) [ yes b ↦ c.loop-i.invariant.1 k b | no g ↦ c.end_of-end.ensures.none-behind a.block.now k (omega arith) h ]), tt)
