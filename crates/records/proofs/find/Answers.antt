use mathlib.Core.Path.{sym, ap, ◌∙◌}
use Prim.Native.Nat.{ℕ, ◌+◌, ◌/◌, ◌-◌}
use native.Mathlib.Omega.{arith}
use mathlib.Core.List.{List}
use Rattle.runs.specs.Listing.{below}
use Rattle.records.proofs.Places.{between_up, between_down}
use Rattle.records.proofs.find.Goals as goal

pub loop-low-preserved-then-below : goal.loop-low-preserved-then-below
loop-low-preserved-then-below c =
    let mid = c.loop-low.low + (c.loop-low.high - c.loop-low.low) / 2 in
    (omega arith, omega arith, between_up c.requires.held c.args.r.now c.loop-low.invariant.2 mid (omega arith) (sym (c.below.ensures ∙ ap (λ (x : List ℕ). below x c.args.r.now) c.record.ensures.is) ∙ c.if-below.true))

pub loop-low-preserved : goal.loop-low-preserved
loop-low-preserved c =
    let mid = c.loop-low.low + (c.loop-low.high - c.loop-low.low) / 2 in
    (omega arith, omega arith, between_down c.requires.held c.args.r.now c.loop-low.invariant.2 mid (sym (c.below.ensures ∙ ap (λ (x : List ℕ). below x c.args.r.now) c.record.ensures.is) ∙ c.if-below.false))
