use mathlib.Core.Path.{◌∙◌, sym, ap}
use Prim.Native.Nat.{ℕ, ◌%◌}
use native.Mathlib.Omega.{arith}
use Rattle.words.specs.Small.{or_zero}
use Rattle.issuing.proofs.location.Goals as goal

pub returns-then-accesses : goal.returns-then-accesses
returns-then-accesses c = (omega arith, λ k s d h. rw (sym c.accesses.ensures ∙ c.if-accesses.true) (ap (λ (n : ℕ). n % 8) (c.or_zero.ensures ∙ ap or_zero (c.named.ensures k s d h))))

pub returns-else-accesses : goal.returns-else-accesses
returns-else-accesses c = (omega arith, λ k s d h. rw (sym c.accesses.ensures ∙ c.if-accesses.false))
