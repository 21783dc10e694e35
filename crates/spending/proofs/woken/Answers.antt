use mathlib.Core.Path.{◌≡◌, subst}
use Prim.Native.Nat.{ℕ}
use native.Mathlib.Omega.{arith}
use Rattle.sure.specs.Spent.{rivals as are_rivals}
use Rattle.orders.specs.Rows.{SetOf}
use Rattle.machine.specs.Shown.{shown_entry}
use Rattle.spending.proofs.Rests.{no_set}
use borrow.Author.Rules.{rules}
use Rattle.spending.proofs.woken.Goals as goal

pub loop-k-init : goal.loop-k-init
loop-k-init c = (search rules, λ x s q h. no_set (λ i. are_rivals s (shown_entry x c.args.e) (s.actions i)))

pub loop-k-preserved : goal.loop-k-preserved
loop-k-preserved c =
    let a = c.args in (
      search rules,
      λ x s q h. c.with-items.ensures (λ i. are_rivals s (shown_entry x a.e) (s.actions i)) (c.loop-k.invariant.1 x s q h) (c.rivals.ensures x s q h),
    )

pub returns : goal.returns
returns c =
    let a = c.args in
    let k : c.loop-k.k ≡ a.m.now.issued = omega arith in
    λ x s q h. subst (λ (n : ℕ). SetOf n (λ i. are_rivals s (shown_entry x a.e) (s.actions i)) c.loop-k.items) k (c.loop-k.invariant.1 x s q h)
