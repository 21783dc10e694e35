use Rattle.rules.specs.Kinds.{reading}
use Rattle.spending.proofs.Rests.{no_set}
use Rattle.spending.specs.Words.{opens}
use Rattle.openings.proofs.Queued.{lead_kind}
use Rattle.openings.proofs.Opens.{fine_in, lone_other, lone_over}
use Rattle.orders.specs.Rows.{SetOf}
use native.Mathlib.Omega.{arith}
use Prim.Native.Nat.{ℕ, ◌+◌, ◌≤◌, ◌<◌}
use mathlib.Core.Bool.{not}
use mathlib.Core.Path.{◌≡◌, subst}
use Rattle.openings.proofs.commits.Goals as goal

pub loop-k-init : goal.loop-k-init
loop-k-init c =
    let f = c.first_of-k in
    let l = c.leading in
    let q = c.queued_others in
    let a = c.args in (
      f.ensures.upto,
      f.ensures.found,
      λ t s E.
          lone_over t s (omega (arith, c.requires.few, E.present)) q.result l.result (q.ensures t s E.arrays.kept) (l.ensures t s E.arrays.kept) (fine_in t s a.case.now.masks a.case.now.presets a.case.now.procs a.case.now.locs a.m.now.issued a.m.now.acts a.m.now.rows a.m.now.sets a.m.now.holders E) 0 a.m.now.issued f.result 0 f.ensures (no_set (opens t s 48)),
    )

pub loop-k-smaller : goal.loop-k-smaller
loop-k-smaller c = omega (arith, c.first_of-k-in-loop-k.ensures.from, c.loop-k-test.true)

pub loop-k-preserved : goal.loop-k-preserved
loop-k-preserved c =
    let f = c.first_of-k-in-loop-k in
    let l = c.leading in
    let q = c.queued_others in
    let a = c.args in
    let k = c.loop-k.k in
    let h : k < a.m.now.issued = omega (arith, c.loop-k-test.true) in (
      f.ensures.upto,
      f.ensures.found,
      λ t s E.
          let few : t.procs ≤ 4 = omega (arith, c.requires.few, E.present) in
          let Q = q.ensures t s E.arrays.kept in
          let L = l.ensures t s E.arrays.kept in
          let fine = fine_in t s a.case.now.masks a.case.now.presets a.case.now.procs a.case.now.locs a.m.now.issued a.m.now.acts a.m.now.rows a.m.now.sets a.m.now.holders E in
          lone_over t s few q.result l.result Q L fine (k + 1) a.m.now.issued f.result c.with-items.result f.ensures
          (c.with-items.ensures (opens t s 48) (c.loop-k.invariant.2 t s E)
          (lone_other t s k c.may_commit.result (lead_kind t s few (λ n. not (reading n)) q.result Q l.result L fine k (omega (arith, h, E.shows.count)) (c.loop-k.invariant.1 h)) (c.may_commit.ensures t s E))),
    )

pub returns : goal.returns
returns c =
    let a = c.args in
    let q : c.loop-k.k ≡ a.m.now.issued = omega (arith, c.loop-k.invariant.0, c.loop-k-test.false) in
    λ t s E. subst (λ (n : ℕ). SetOf n (opens t s 48) c.loop-k.items) q (c.loop-k.invariant.2 t s E)
