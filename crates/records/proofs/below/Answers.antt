use Rattle.std.proofs.Common.{refl, sym, subst, ◌∙◌, arith}
use Rattle.records.proofs.Order.{Bytes, eights_same, eights_differ, drop_bytes, less}
use Rattle.records.proofs.below.Goals as goal
use lib.Dec.{ltb}

pub loop-x-init : goal.loop-x-init
loop-x-init c = (c.requires, refl, λ k. omega (arith, c.type_inv.a k), λ k. omega (arith, c.type_inv.b k))

pub returns-then-x-y : goal.returns-then-x-y
returns-then-x-y c =
    let xs = c.in-Some-Some.ensures.cases in
    let ys = c.in-Some-Some.ensures'.cases in
    let i = c.loop-x.invariant in
    (λ j. ltb (c.from_be_bytes-x.ensures j) (c.from_be_bytes-y.ensures j))
    ∙ eights_differ _ _ _ _ _ _ i.2 i.3 xs ys (λ e. c.if-x-y.true (c.from_be_bytes-x.ensures ∙ e ∙ sym c.from_be_bytes-y.ensures))
    ∙ i.1

pub loop-x-preserved : goal.loop-x-preserved
loop-x-preserved c =
    let xs = c.in-Some-Some.ensures.cases in
    let ys = c.in-Some-Some.ensures'.cases in
    let i = c.loop-x.invariant in (
      omega (arith, xs.2, ys.2, i.0),
      eights_same _ _ _ _ _ _ i.2 i.3 xs ys (sym c.from_be_bytes-x.ensures ∙ c.if-x-y.false ∙ c.from_be_bytes-y.ensures) ∙ i.1,
      subst Bytes (sym xs.1) (drop_bytes 8 c.loop-x.left.now i.2),
      subst Bytes (sym ys.1) (drop_bytes 8 c.loop-x.right.now i.3),
    )

pub returns : goal.returns
returns c = c.lt.ensures ∙ less c.loop-x.left.now c.loop-x.right.now ∙ c.loop-x.invariant.1
