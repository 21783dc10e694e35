use mathlib.Core.Path.{sym, ap, ◌∙◌}
use mathlib.Core.List.{List}
use Prim.Native.Nat.{ℕ}
use native.Mathlib.Omega.{arith}
use Rattle.runs.specs.Listing.{below}
use Rattle.records.proofs.Places.{place_first, place_last}
use Rattle.records.proofs.after_last.Goals as goal

pub returns-then-n-eq0 : goal.returns-then-n-eq0
returns-then-n-eq0 c = λ h. place_first c.requires.held c.args.r.now c.if-n-eq0.true

pub returns-else-n-eq0 : goal.returns-else-n-eq0
returns-else-n-eq0 c =
    let r = c.args.r.now in
    λ h. place_last c.requires.held r (omega arith) (sym (c.below.ensures ∙ ap (λ (x : List ℕ). below x r) c.record.ensures.is) ∙ h)
