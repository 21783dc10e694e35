use mathlib.Core.Path.{◌≡◌, ◌∙◌, sym, ap}
use mathlib.Core.Bool.{not}
use borrow.Author.Tests.{eq-eqb}
use Rattle.rules.specs.Commit.{visible}
use Rattle.committing.proofs.Refusing.{sight_blind, sight_clear, sight_free}
use Rattle.committing.proofs.sight_code.Goals as goal

pub returns-then-not-has : goal.returns-then-not-has
returns-then-not-has c =
    let a = c.args in
    λ x s z.
    let q : c.has.result ≡ visible x s a.loc a.i a.src = c.has.ensures ∙ c.visible_items.ensures x s (z (eq-eqb a.kind 1 c.if-kind-eq1.true)) a.src in
    sight_blind a.kind (visible x s a.loc a.i a.src) c.if-kind-eq1.true (ap not (sym q ∙ c.if-not-has.true))

pub returns-else-not-has : goal.returns-else-not-has
returns-else-not-has c =
    let a = c.args in
    λ x s z.
    let q : c.has.result ≡ visible x s a.loc a.i a.src = c.has.ensures ∙ c.visible_items.ensures x s (z (eq-eqb a.kind 1 c.if-kind-eq1.true)) a.src in
    sight_clear a.kind (visible x s a.loc a.i a.src) c.if-kind-eq1.true (ap not (sym q ∙ c.if-not-has.false))

pub returns-else-kind-eq1 : goal.returns-else-kind-eq1
returns-else-kind-eq1 c = let a = c.args in λ x s z. sight_free a.kind (visible x s a.loc a.i a.src) c.if-kind-eq1.false
