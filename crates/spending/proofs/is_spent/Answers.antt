use mathlib.Core.Path.{◌≡◌, ◌∙◌}
use native.Mathlib.Omega.{arith}
use Prim.Native.Nat.{◌/◌, ◌%◌}
use Rattle.spending.proofs.Spends.{spent_read, spent_lone, spent_high, spent_issue}
use Rattle.spending.proofs.is_spent.Goals.{else-w-eq48-via-then-w-eq48+else-e-lt48, else-w-eq48-via-else-w-eq48}
use Rattle.spending.proofs.is_spent.Goals as goal

pub returns-then-w-lt48 : goal.returns-then-w-lt48
returns-then-w-lt48 c = let a = c.args in rw (c.has-here.ensures, c.has.ensures) (spent_read a.spent.now (a.j / 64) (a.j % 64) c.if-w-lt48.true)

pub returns-then-e-lt48 : goal.returns-then-e-lt48
returns-then-e-lt48 c = let a = c.args in rw (c.has-here.ensures, c.has-then-e-lt48.ensures) (spent_lone a.spent.now (a.j / 64) (a.j % 64) c.if-w-eq48.true c.if-e-lt48.true)

pub returns-else-w-eq48 : goal.returns-else-w-eq48
returns-else-w-eq48 c =
    let a = c.args in
    elim c.else-w-eq48.branch [
      | else-w-eq48-via-then-w-eq48+else-e-lt48 w ↦ c.has-here.ensures ∙ spent_high a.spent.now (a.j / 64) (a.j % 64) w.if-w-eq48.true w.if-e-lt48.false
      | else-w-eq48-via-else-w-eq48 w ↦
          let q : a.j / 64 ≡ 49 = omega (arith, c.if-w-lt48.false, w.if-w-eq48.false, c.requires) in
          c.has-here.ensures ∙ spent_issue a.spent.now (a.j / 64) (a.j % 64) q
    ]
