use mathlib.Core.Path.{◌∙◌, ap}
use Rattle.words.specs.Sets.{has}
use Prim.Native.Nat.{ℕ}
use Rattle.words.proofs.Sets.{has_one}
use Rattle.spending.proofs.Rests.{issue_last, issue_other}
use native.Mathlib.Omega.{arith}
use Rattle.spending.proofs.still_spent.Goals as goal

pub returns-then-last : goal.returns-then-last
returns-then-last c = let a = c.args in λ q. issue_last a.x q a.p a.issued (omega arith)

pub returns-else-last : goal.returns-else-last
returns-else-last c = let a = c.args in λ q. issue_other a.x q a.p a.issued c.one.result c.minus.result (omega arith) (ap (λ (x : ℕ). has x q) c.one.ensures ∙ has_one a.p q) (c.minus.ensures q)
