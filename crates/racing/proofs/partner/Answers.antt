use mathlib.Core.Path.{◌≡◌, ◌∙◌, refl, sym, subst}
use native.Mathlib.Omega.{arith}
use Rattle.racing.proofs.Testing.{Unmet, unmet_start, unmet_next, met, unmet}
use Rattle.racing.proofs.partner.Goals as goal

pub loop-k-init : goal.loop-k-init
loop-k-init c = (omega (arith, c.requires.there), omega arith, λ k s h o e. unmet_start s c.args.j)

pub returns-then-races-clause-lowest : goal.returns-then-races-clause-lowest
returns-then-races-clause-lowest c =
    let a = c.args in
    λ k s h o e. met s a.j c.loop-k.k (omega (arith, h.count)) c.loop-k.invariant.1 (c.loop-k.invariant.2 k s h o e) (sym c.if-races.true ∙ c.races.ensures k s h o e)

pub loop-k-preserved : goal.loop-k-preserved
loop-k-preserved c =
    let a = c.args in
    (omega arith, omega (arith, c.loop-k.invariant.1), λ k s h o e. unmet_next s a.j c.loop-k.k (c.loop-k.invariant.2 k s h o e) (sym c.if-races.false ∙ c.races.ensures k s h o e))

pub returns-clause-lowest : goal.returns-clause-lowest
returns-clause-lowest c =
    let a = c.args in
    let q : c.loop-k.k ≡ a.m.now.issued = omega (arith, c.loop-k.invariant.0) in
    λ k s h o e. unmet s a.j s.count refl (subst (Unmet s a.j) (q ∙ sym h.count) (c.loop-k.invariant.2 k s h o e))
