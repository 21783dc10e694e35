use mathlib.Core.Path.{◌≡◌, ◌∙◌, refl, sym, subst}
use Prim.Native.Nat.{ℕ, ◌<◌}
use native.Mathlib.Omega.{arith}
use Rattle.std.specs.Option.{IfSome, unwrap_or}
use Rattle.racing.proofs.Testing.{Unopened, unopened_next, opened, unopened, found, lost}
use borrow.Author.Rules.{rules}
use Rattle.racing.proofs.opener.Goals as goal

pub loop-j-init : goal.loop-j-init
loop-j-init c = (search rules, λ k s h o e i l. absurd (omega arith))

pub returns-then-is_some-clause-lowest : goal.returns-then-is_some-clause-lowest
returns-then-is_some-clause-lowest c =
    let r = c.partner.result in
    λ k s h o e.
    opened s c.loop-j.j (unwrap_or r s.count) (omega (arith, h.count)) (c.loop-j.invariant.1 k s h o e) (c.partner.ensures.lowest k s h o e)
    (found r s.count (subst (λ (n : ℕ). IfSome r (λ i. i < n)) (sym h.count) c.partner.ensures.there) (sym c.is_some.ensures ∙ c.if-is_some.true))

pub loop-j-preserved : goal.loop-j-preserved
loop-j-preserved c =
    let r = c.partner.result in
    (search rules, λ k s h o e. unopened_next s c.loop-j.j (unwrap_or r s.count) (c.loop-j.invariant.1 k s h o e) (c.partner.ensures.lowest k s h o e) (lost r s.count (sym c.is_some.ensures ∙ c.if-is_some.false)))

pub returns-clause-lowest : goal.returns-clause-lowest
returns-clause-lowest c =
    let a = c.args in
    let q : c.loop-j.j ≡ a.m.now.issued = omega (arith, c.loop-j.invariant.0) in
    λ k s h o e. unopened s s.count refl (subst (Unopened s) (q ∙ sym h.count) (c.loop-j.invariant.1 k s h o e))
