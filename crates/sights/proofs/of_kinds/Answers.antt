use mathlib.Core.Path.{◌≡◌, ◌∙◌, sym, ap}
use mathlib.Core.Bool.{Bool, ◌||◌}
use Prim.Native.Nat.{ℕ, ◌+◌, ◌<◌}
use native.Mathlib.Omega.{arith}
use Rattle.std.proofs.lemmas.Nat.{or_comm}
use Rattle.words.specs.Sets.{has}
use Rattle.words.proofs.Bools.{or_nothing}
use Rattle.words.proofs.Sets.{has_zero}
use Rattle.rules.specs.State.{kind_of}
use Rattle.sights.proofs.Holds.{kinds_none, kinds_more, least_byte}
use borrow.Author.Rules.{rules}
use Rattle.sights.proofs.of_kinds.Goals as goal

pub loop-rest-init : goal.loop-rest-init
loop-rest-init c = (search rules, λ x s k j l. kinds_none c.args.kinds (kind_of (s.actions j)) j)

pub of_kind-items-requires : goal.of_kind-items-requires
of_kind-items-requires c =
    let p : 0 < c.loop-rest.rest = omega arith in
    least_byte c.loop-rest.rest c.lowest.result c.lowest.ensures p c.loop-rest.invariant.0

pub loop-rest-preserved : goal.loop-rest-preserved
loop-rest-preserved c =
    let a = c.args in
    let p : 0 < c.loop-rest.rest = omega arith in
    let e = c.lowest.result in
    let m = c.lowest.ensures in (
      omega (arith, c.others-rest.ensures.0, c.loop-rest.invariant.0),
      λ x s k j l. rw (or_comm c.loop-rest.items c.of_kind-items.result) (kinds_more c.loop-rest.rest e c.others-rest.result m p (c.others-rest.ensures.1 e m) c.of_kind-items.result c.loop-rest.items (kind_of (s.actions j)) j (has a.kinds (kind_of (s.actions j))) (c.of_kind-items.ensures x s k j l) (c.loop-rest.invariant.1 x s k j l)),
    )

pub returns : goal.returns
returns c =
    let a = c.args in
    let z : c.loop-rest.rest ≡ 0 = omega arith in
    λ x s k j l.
    sym (or_nothing (has c.loop-rest.items (8 + j)))
    ∙ ap (λ (b : Bool). has c.loop-rest.items (8 + j) || b) (sym (has_zero (kind_of (s.actions j))))
    ∙ ap (λ (n : ℕ). has c.loop-rest.items (8 + j) || has n (kind_of (s.actions j))) (sym z)
    ∙ c.loop-rest.invariant.1 x s k j l
