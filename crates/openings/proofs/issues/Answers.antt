use borrow.Author.Rules.{rules}
use Rattle.spending.proofs.Rests.{no_set}
use Rattle.spending.specs.Words.{opens}
use Rattle.orders.specs.Rows.{SetOf}
use native.Mathlib.Omega.{arith}
use Prim.Native.Nat.{ℕ}
use mathlib.Core.Path.{◌≡◌, subst}
use Rattle.openings.proofs.issues.Goals as goal

pub loop-p-init : goal.loop-p-init
loop-p-init c = (search rules, λ t s L h o g. no_set (opens t s 49))

pub loop-p-preserved : goal.loop-p-preserved
loop-p-preserved c =
    (search rules, λ t s L h o g. c.with-items.ensures (opens t s 49) (c.loop-p.invariant.1 t s L h o g) (c.may_issue.ensures t s L h o g))

pub returns : goal.returns
returns c =
    let q : c.loop-p.p ≡ 4 = omega arith in
    λ t s L h o g. subst (λ (n : ℕ). SetOf n (opens t s 49) c.loop-p.items) q (c.loop-p.invariant.1 t s L h o g)
