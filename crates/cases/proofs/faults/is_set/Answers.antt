use mathlib.Core.Path.{ap, ◌∙◌}
use Prim.Native.Nat.{ℕ}
use native.Mathlib.Omega.{arith}
use Rattle.words.specs.Sets.{has}
use Rattle.cases.proofs.Registers.{set-none, set_more, set_all}
use Rattle.cases.proofs.faults.is_set.Goals as goal

pub loop-n-init : goal.loop-n-init
loop-n-init c =
    let a = c.args in
    set-none a.block.now a.p a.r c.has-set.result (c.has-set.ensures ∙ ap (λ (m : ℕ). has m a.r) c.number-mask.ensures.is)

pub loop-n-preserved : goal.loop-n-preserved
loop-n-preserved c =
    let a = c.args in
    set_more a.block.now a.p a.r c.loop-n.set c.assigns_at-set.result c.loop-n.n c.loop-n.invariant c.assigns_at-set.ensures

pub returns : goal.returns
returns c =
    let a = c.args in
    set_all a.block.now a.p a.r c.loop-n.set c.loop-n.n c.loop-n.invariant (omega arith)
