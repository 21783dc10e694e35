use Rattle.orders.proofs.Bits.{some_bit}
use Rattle.sure.specs.Quiet.{pending}
use Rattle.rules.specs.State.{Action}
use Rattle.words.specs.Small.{some_below}
use native.Mathlib.Omega.{arith}
use Prim.Native.Nat.{ℕ}
use mathlib.Core.Path.{refl, ◌∙◌, sym, ap}
use Rattle.choices.proofs.settled_sources.Goals as goal

pub write_pending-requires : goal.write_pending-requires
write_pending-requires c = omega (arith, c.requires.loc)

pub returns-then-write_pending : goal.returns-then-write_pending
returns-then-write_pending c = λ t s E z. absurd (z refl)

pub returns-else-write_pending : goal.returns-else-write_pending
returns-else-write_pending c =
    let v = c.sources in
    λ t s E z.
    let r = some_bit v.result v.result (omega arith) z in (
      record {
        opened = (r.0, sym (v.ensures t s E r.0) ∙ r.1);
        still = ap (λ (l : ℕ). some_below s.count (λ j. pending l (s.actions j))) (ap (λ (x : Action). x.loc) E.same) ∙ sym (c.write_pending.ensures t s E.kept) ∙ c.if-write_pending.false;
      },
      v.ensures t s E,
    )
