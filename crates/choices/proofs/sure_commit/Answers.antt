use Rattle.choices.proofs.Answers.{NoSure, no_sure, sure_refused, sure_over, sure_here, sure_nowhere}
use Rattle.openings.proofs.Opens.{fine_in}
use native.Mathlib.Omega.{arith}
use Prim.Native.Nat.{◌+◌, ◌<◌}
use mathlib.Core.Path.{◌≡◌, ◌∙◌, sym, subst}
use Rattle.choices.proofs.sure_commit.Goals as goal

pub loop-k-init : goal.loop-k-init
loop-k-init c =
    let f = c.first_of-k in
    let y = c.leading in
    let x = c.queued_sure in
    let a = c.args in (
      f.ensures.upto,
      f.ensures.found,
      λ t s E.
          let K = E.arrays.kept in
          let fine = fine_in t s a.case.now.masks a.case.now.presets a.case.now.procs a.case.now.locs a.m.now.issued a.m.now.acts a.m.now.rows a.m.now.sets a.m.now.holders E in
          sure_over t s (omega (arith, c.requires.few, E.present)) x.result y.result (x.ensures t s K) (y.ensures t s K) fine 0 a.m.now.issued f.result f.ensures (no_sure t s),
    )

pub returns-then-may_commit-clause-found : goal.returns-then-may_commit-clause-found
returns-then-may_commit-clause-found c =
    let y = c.leading in
    let x = c.queued_sure in
    let a = c.args in
    let k = c.loop-k.k in
    let l : k < a.m.now.issued = omega (arith, c.loop-k-test.true) in
    λ t s E.
    let K = E.arrays.kept in
    let fine = fine_in t s a.case.now.masks a.case.now.presets a.case.now.procs a.case.now.locs a.m.now.issued a.m.now.acts a.m.now.rows a.m.now.sets a.m.now.holders E in
    sure_here t s (omega (arith, c.requires.few, E.present)) x.result y.result (x.ensures t s K) (y.ensures t s K) fine k c.may_commit.result (omega (arith, l, c.requires.issued)) (omega (arith, l, E.shows.count)) (c.loop-k.invariant.1 l) (c.may_commit.ensures t s E) c.if-may_commit.true

pub loop-k-smaller : goal.loop-k-smaller
loop-k-smaller c = omega (arith, c.first_of-k-in-loop-k.ensures.from, c.loop-k-test.true)

pub loop-k-preserved : goal.loop-k-preserved
loop-k-preserved c =
    let f = c.first_of-k-in-loop-k in
    let m = c.may_commit in
    let y = c.leading in
    let x = c.queued_sure in
    let a = c.args in
    let k = c.loop-k.k in (
      f.ensures.upto,
      f.ensures.found,
      λ t s E.
          let K = E.arrays.kept in
          let fine = fine_in t s a.case.now.masks a.case.now.presets a.case.now.procs a.case.now.locs a.m.now.issued a.m.now.acts a.m.now.rows a.m.now.sets a.m.now.holders E in
          sure_over t s (omega (arith, c.requires.few, E.present)) x.result y.result (x.ensures t s K) (y.ensures t s K) fine (k + 1) a.m.now.issued f.result f.ensures (sure_refused t s k (c.loop-k.invariant.2 t s E) m.result (m.ensures t s E) c.if-may_commit.false),
    )

pub returns-clause-found : goal.returns-clause-found
returns-clause-found c =
    let a = c.args in
    let q : c.loop-k.k ≡ a.m.now.issued = omega (arith, c.loop-k.invariant.0, c.loop-k-test.false) in
    λ t s E. sure_nowhere t s (subst (NoSure t s) (q ∙ sym E.shows.count) (c.loop-k.invariant.2 t s E))
