use mathlib.Core.Path.{sym, ◌∙◌, subst}
use Prim.Native.Nat.{ℕ, ◌+◌}
use lib.Bits.{bit_or}
use Rattle.orders.specs.Rows.{SetOf}
use Rattle.orders.proofs.Reached.{set_with}
use Rattle.orders.proofs.with.Goals as goal

pub returns-then-test : goal.returns-then-test
returns-then-test c =
    let a = c.args in
    λ P h t. subst (λ (y : ℕ). SetOf (a.n + 1) P (bit_or y a.x)) (sym c.one.ensures) (set_with a.n P a.x h (sym t ∙ c.if-test.true))
