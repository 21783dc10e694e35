use Prim.Native.Nat.{ℕ, ◌+◌, ◌/◌, ◌%◌, ◌<◌, ◌≤◌}
use lib.Dec.{ltb}
use Rattle.cases.specs.Block.{byte}
use mathlib.Core.Path.{sym, subst, ◌∙◌}
use borrow.Author.Tests.{lt-ltb, le-ltb}
use Rattle.words.proofs.Bools.{cond-true, cond-false}
use Rattle.shelves.proofs.counts.op_at.Goals as goal

pub returns-then-n-number : goal.returns-then-n-number
returns-then-n-number c =
    let a = c.args in
    c.number-then-n-number.ensures.is ∙ sym (cond-true (ltb (a.n % 12) (byte a.block.now (4 + a.n / 12))) _ 0 (lt-ltb _ _ (subst (λ (k : ℕ). a.n % 12 < k) c.number.ensures.is c.if-n-number.true)))

pub returns-else-n-number : goal.returns-else-n-number
returns-else-n-number c =
    let a = c.args in
    sym (cond-false (ltb (a.n % 12) (byte a.block.now (4 + a.n / 12))) _ 0 (le-ltb _ _ (subst (λ (k : ℕ). k ≤ a.n % 12) c.number.ensures.is c.if-n-number.false)))
