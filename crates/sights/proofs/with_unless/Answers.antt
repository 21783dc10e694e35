use mathlib.Core.Path.{◌∙◌, ap}
use Prim.Native.Nat.{ℕ}
use lib.Bits.{bit_or}
use Rattle.words.specs.Sets.{has}
use Rattle.sights.proofs.Seeing.{with_one, with_none}
use Rattle.sights.proofs.with_unless.Goals as goal

pub returns-then-test : goal.returns-then-test
returns-then-test c = let s = c.args in λ a. with_none s.x s.e a s.test c.if-test.true

pub returns-else-test : goal.returns-else-test
returns-else-test c =
    let s = c.args in
    λ a. ap (λ (n : ℕ). has (bit_or n s.x) a) c.one.ensures ∙ with_one s.x s.e a s.test c.if-test.false
