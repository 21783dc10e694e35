use mathlib.Core.Path.{◌≡◌, ◌∙◌, sym, subst}
use Prim.Native.Nat.{ℕ, ◌<◌}
use native.Mathlib.Omega.{arith}
use Rattle.words.specs.Small.{is_none}
use Rattle.rules.specs.Result.{how_many}
use Rattle.leaving.proofs.Leaves.{many_none, many_next}
use borrow.Author.Rules.{rules}
use Rattle.leaving.proofs.queue.Goals as goal

pub loop-k-init : goal.loop-k-init
loop-k-init c = (search rules, search rules, λ k s h q. many_none (λ j. is_none (s.actions j).result))

pub loop-k-preserved : goal.loop-k-preserved
loop-k-preserved c = (
  search rules,
  search rules,
  λ k s h q. many_next s c.loop-k.k c.loop-k.n c.waits.result (subst (λ (x : ℕ). c.loop-k.k < x) (sym q) c.loop-k-test.true) (c.waits.ensures k s h q) (c.loop-k.invariant.2 k s h q),
)

pub returns : goal.returns
returns c =
    let a = c.args in
    let e : c.loop-k.k ≡ a.m.now.issued = omega arith in
    (omega (arith, c.loop-k.invariant.1, c.requires), λ k s h q. subst (λ (x : ℕ). c.loop-k.n ≡ how_many x (λ j. is_none (s.actions j).result)) (e ∙ sym q) (c.loop-k.invariant.2 k s h q))
