use mathlib.Core.Path.{◌∙◌, refl}
use borrow.Author.Tests.{lt-ltb, le-ltb}
use Rattle.sights.proofs.Holds.{waits_is}
use Rattle.sights.proofs.waits.Goals as goal

pub returns-then-k-m : goal.returns-then-k-m
returns-then-k-m c =
    let a = c.args in
    let n = a.m.now.issued in
    λ x s k e. rw (lt-ltb a.k n c.if-k-m.true) at (waits_is x s a.m.now.sets k n a.k c.has.result c.has.ensures e)

pub returns-else-k-m : goal.returns-else-k-m
returns-else-k-m c =
    let a = c.args in
    let n = a.m.now.issued in
    let past = le-ltb a.k n c.if-k-m.false in
    λ x s k e. past ∙ rw past at (waits_is x s a.m.now.sets k n a.k _ refl e)
