use Rattle.openings.proofs.Opens.{entry_in}
use Rattle.committing.proofs.Refusing.{loc_low}
use lib.ListN.{get_or}
use native.Mathlib.Omega.{arith}
use Prim.Native.Nat.{◌<◌}
use Rattle.choices.proofs.first_settled.Goals as goal

pub loop-k-init : goal.loop-k-init
loop-k-init c = c.first_of-k.ensures.upto

pub settled_sources-sources-requires : goal.settled_sources-sources-requires
settled_sources-sources-requires c =
    let l : c.loop-k.k < c.args.m.now.issued = omega (arith, c.loop-k-test.true) in
    record { few = c.requires.few; low = omega (arith, l, c.requires.issued); loc = loc_low c.entry_at-e.result (get_or c.args.m.now.acts c.loop-k.k 0) c.entry_at-e.ensures }

pub returns-then-sources-ne0-clause-low : goal.returns-then-sources-ne0-clause-low
returns-then-sources-ne0-clause-low c = omega (arith, c.loop-k-test.true, c.requires.issued)

pub returns-then-sources-ne0-clause-found : goal.returns-then-sources-ne0-clause-found
returns-then-sources-ne0-clause-found c =
    let v = c.settled_sources-sources in
    let i = c.entry_at-e in
    let a = c.args in
    let k = c.loop-k.k in
    let l : k < a.m.now.issued = omega (arith, c.loop-k-test.true) in
    λ t s E.
    let w = v.ensures t s (entry_in t s a.case.now.masks a.m.now.rows a.m.now.sets a.case.now.procs a.m.now.issued a.m.now.acts E c.requires.issued k l i.result i.ensures) c.if-sources-ne0.true in
    record { read = w.0; some = c.if-sources-ne0.true; seen = w.1 }

pub loop-k-smaller : goal.loop-k-smaller
loop-k-smaller c = omega (arith, c.first_of-k-in-loop-k.ensures.from, c.loop-k-test.true)

pub loop-k-preserved : goal.loop-k-preserved
loop-k-preserved c = c.first_of-k-in-loop-k.ensures.upto
