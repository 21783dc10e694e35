use mathlib.Core.Path.{sym, ◌∙◌, ap}
use mathlib.Core.Bool.{◌||◌, not, false≢true}
use Prim.Native.Nat.{ℕ}
use lib.Dec.{eqb}
use Rattle.words.specs.Small.{some_below}
use Rattle.words.proofs.Bools.{and_make, or_left, or_right}
use Rattle.sure.specs.Futile.{futile, drains, leaves}
use Rattle.leaving.proofs.leave.Goals.{then-queued_releases-ne0+then-marked, then-queued_releases-ne0+else-marked, else-queued_releases-ne0}
use Rattle.leaving.proofs.leave.Goals as goal

pub returns-then-drains : goal.returns-then-drains
unfolding leaves
returns-then-drains c =
    let a = c.args in
    λ k s q h w o t. and_make (some_below s.count (futile s)) (a.marked || drains a.n s)
    (c.some_futile.ensures k s q h w o t)
    (elim c.if-queued_releases-ne0.branch [
      | then-queued_releases-ne0+then-marked v ↦ or_left a.marked (drains a.n s) v.if-marked.true
      | then-queued_releases-ne0+else-marked v ↦ or_right a.marked (drains a.n s) (sym (v.drains.ensures k s w h.count) ∙ sym v.value-is ∙ c.if-drains.true)
      | else-queued_releases-ne0 v ↦ absurd (false≢true (ap (λ (n : ℕ). not (eqb n 0)) (sym v.if-queued_releases-ne0.false) ∙ sym v.value-is ∙ c.if-drains.true))
    ])
