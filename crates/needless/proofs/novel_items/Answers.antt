use mathlib.Core.Path.{◌≡◌, refl, sym, ap, ◌∙◌}
use mathlib.Core.Bool.{Bool, false, ◌||◌}
use lib.Dec.{eqb}
use Prim.Native.Nat.{◌<◌}
use native.Mathlib.Omega.{arith}
use Rattle.words.specs.Sets.{has}
use Rattle.words.proofs.Bools.{and_both, and_true, and_right}
use Rattle.needless.proofs.Ignoring.{with_one}
use Rattle.orders.proofs.Walks.{sift_none, sift_more, sift_all}
use Rattle.needless.specs.Echoes.{is_novel}
use Rattle.needless.proofs.Echoing.{novel_all}
use Rattle.needless.proofs.novel_items.Goals.{then-novel, else-novel}
use Rattle.needless.proofs.novel_items.Goals as goal

pub loop-rest-init : goal.loop-rest-init
loop-rest-init c = let a = c.args in λ x s m h. sift_none c.minus-rest.result (is_novel x s a.word a.done)

pub one-items-requires : goal.one-items-requires
one-items-requires c =
    let p : 0 < c.loop-rest.rest = omega arith in
    c.lowest-e.ensures.low p

pub loop-rest-preserved : goal.loop-rest-preserved
loop-rest-preserved c =
    let a = c.args in
    let start = c.minus-rest in
    let seen = c.loop-rest.items in
    let p : 0 < c.loop-rest.rest = omega arith in
    let e = c.lowest-e in
    λ x s m h.
    let k = c.loop-rest.invariant x s m h in
    let i = sym (start.ensures e.result) ∙ k.inside e.result (e.ensures.inside (e.ensures.low p)) in
    let n = c.novel.ensures x s m h (and_both (has a.word e.result) _ i).0 in
    sift_more c.loop-rest.rest e.result c.others-rest.result e.ensures p (c.others-rest.ensures.1 e.result e.ensures) start.result (is_novel x s a.word a.done) seen c.if-novel.items c.novel.result n
    (elim c.if-novel.branch [
      | then-novel w ↦ λ b. rw (w.items-is, w.if-novel.true) (with_one seen e.result w.one-items.result b w.one-items.ensures ∙ ap (λ (t : Bool). t || has seen b) (sym (and_true (eqb b e.result))))
      | else-novel w ↦ λ b. rw (w.items-is, w.if-novel.false) (ap (λ (t : Bool). t || has seen b) (sym (and_right (eqb b e.result) false refl)))
    ])
    k

pub returns : goal.returns
returns c =
    let a = c.args in
    let q : c.loop-rest.rest ≡ 0 = omega arith in
    λ x s m h. novel_all x s a.word a.done c.minus-rest.result c.loop-rest.items c.ranges.word.fits c.minus-rest.ensures (sift_all q (c.loop-rest.invariant x s m h))
