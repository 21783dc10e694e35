use lib.ListN.{get_or, length-set}
use mathlib.Core.Path.{◌≡◌, ◌∙◌, sym, subst}
use Prim.Native.Nat.{ℕ}
use native.Mathlib.Omega.{arith}
use Rattle.spending.specs.Spending.{Cleared}
use Rattle.spending.proofs.Rests.{cleared_none, cleared_more, cleared_kept, word_gone}
use borrow.Author.Rules.{rules}
use Rattle.spending.proofs.clear.Goals.{then-has, else-has}
use Rattle.spending.proofs.clear.Goals as goal

pub loop-k-init : goal.loop-k-init
loop-k-init c = (search rules, length-set c.args.spent.now 48 _ ∙ c.requires, λ now h. h)

pub loop-k-preserved : goal.loop-k-preserved
loop-k-preserved c =
    let a = c.args in
    elim c.if-has.branch [
      | then-has w ↦ (search rules, c.if-has.array_long, λ now h. rw w.spent-is (cleared_more now a.gone c.loop-k.spent c.loop-k.k 0 (omega arith) (c.loop-k.invariant.2 now h) (λ x. word_gone (get_or c.loop-k.spent c.loop-k.k 0) x _ (sym c.has.ensures ∙ w.if-has.true))))
      | else-has w ↦ (search rules, c.if-has.array_long, λ now h. rw w.spent-is (cleared_kept now a.gone c.loop-k.spent c.loop-k.k (omega arith) (sym c.has.ensures ∙ w.if-has.false) (c.loop-k.invariant.2 now h)))
    ]

pub returns : goal.returns
returns c =
    let q : c.loop-k.k ≡ 48 = omega arith in
    subst (λ (n : ℕ). Cleared c.args.spent.now c.args.gone n c.loop-k.spent) q (c.loop-k.invariant.2 c.args.spent.now (cleared_none c.args.spent.now c.args.gone c.minus.result c.requires c.minus.ensures))
