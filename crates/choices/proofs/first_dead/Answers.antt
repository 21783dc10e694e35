use Rattle.choices.proofs.Answers.{dead_at}
use Rattle.openings.proofs.Opens.{entry_in}
use Rattle.committing.proofs.Refusing.{loc_low}
use Rattle.words.specs.Sets.{has}
use lib.ListN.{get_or}
use native.Mathlib.Omega.{arith}
use Prim.Native.Nat.{◌<◌}
use mathlib.Core.Path.{◌∙◌, sym}
use Rattle.choices.proofs.first_dead.Goals as goal

pub loop-k-init : goal.loop-k-init
loop-k-init c = c.first_of-k.ensures.upto

pub sources-requires : goal.sources-requires
sources-requires c =
    let k = c.loop-k.k in
    let l : k < c.args.m.now.issued = omega (arith, c.loop-k-test.true) in
    record { few = c.requires.few; low = omega (arith, l, c.requires.issued); loc = loc_low c.entry_at-a.result (get_or c.args.m.now.acts k 0) c.entry_at-a.ensures }

pub returns-then-e-lt64 : goal.returns-then-e-lt64
returns-then-e-lt64 c =
    let e = c.lowest-e in
    let u = c.ignored-inner in
    let a = c.args in
    let k = c.loop-k.k in
    let l : k < a.m.now.issued = omega (arith, c.loop-k-test.true) in
    λ t s E n. dead_at t s k e.result (omega (arith, l, c.requires.issued)) c.if-e-lt64.true (sym (c.sources.ensures t s (entry_in t s a.case.now.masks a.m.now.rows a.m.now.sets a.case.now.procs a.m.now.issued a.m.now.acts E c.requires.issued k l c.entry_at-a.result c.entry_at-a.ensures) e.result) ∙ e.ensures.inside c.if-e-lt64.true) (has u.result) (u.ensures t s E.shows n) (sym c.has.ensures ∙ c.if-has.true)

pub loop-k-smaller : goal.loop-k-smaller
loop-k-smaller c = omega (arith, c.first_of-k-in-loop-k.ensures.from, c.loop-k-test.true)

pub loop-k-preserved : goal.loop-k-preserved
loop-k-preserved c = c.first_of-k-in-loop-k.ensures.upto
