use native.Mathlib.Omega.{arith}
use mathlib.Core.Path.{◌≡◌, sym, ◌∙◌, ap}
use Prim.Native.Nat.{ℕ, suc, ◌+◌}
use Rattle.handoffs.specs.Plans.{fresh}
use Rattle.handoffs.specs.Inner.{deed_of}
use Rattle.handoffs.proofs.Turns.{register_at, ready_from, not_ready}
use Rattle.handoffs.proofs.ready_at.Goals as goal

pub loop-i-preserved : goal.loop-i-preserved
loop-i-preserved c =
    let p = c.args.p in
    let i = c.loop-i.i in
    let x = c.loop-i.invariant in
    let next : i + 1 ≡ suc i = omega arith in (
      c.fresh-k.ensures.0 ∙ ap (λ (k : ℕ). fresh k (deed_of p i)) x.0 ∙ sym (ap (register_at p) next),
      omega (arith, c.fresh-k.ensures.1, x.1),
      x.2 ∙ not_ready p i c.loop-i-test.true c.if-p-i-eq3.false ∙ sym (ap (ready_from p) next),
    )
