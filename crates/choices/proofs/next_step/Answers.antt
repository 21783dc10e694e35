use Rattle.std.specs.Option.{unwrap_or}
use Rattle.choices.proofs.Found.{fresh_or}
use Rattle.choices.proofs.Next.{pass_none, pass_more, pass_over, next_in, next_found, next_none, next_last}
use Rattle.openings.proofs.Opens.{arrays_of, issue_set}
use Rattle.machine.specs.Shown.{shown}
use Rattle.machine.specs.Lent.{machine_of}
use native.Mathlib.Omega.{arith}
use mathlib.Core.Path.{refl}
use Rattle.choices.proofs.next_step.Goals as goal

pub loop-j-init : goal.loop-j-init
loop-j-init c =
    let n = c.next_word-j in
    let q = c.queued_reads-reads in
    let a = c.args in
    let m = machine_of a.m.now.issued a.m.now.places a.m.now.names a.m.now.holders a.m.now.acts a.m.now.rows a.m.now.sets in (
      n.ensures.from,
      n.ensures.upto,
      λ t L e v. pass_over t (shown t m) a.spent.now a.at v.fit.procs q.result a.at a.to n.result (q.ensures t (shown t m) v.kept) n.ensures (pass_none t (shown t m) a.spent.now a.at),
    )

pub issues-word-requires : goal.issues-word-requires
issues-word-requires c = let p = c.requires.asking in record { issued = p.issued; few = p.few; counted = p.counted; names_long = p.names_long }

pub first_fresh-requires : goal.first_fresh-requires
first_fresh-requires c =
    let p = c.requires in
    record { from = c.loop-j.invariant.1; upto = p.upto; one = λ i x y. omega (arith, p.upto, c.if-asks_issues.true) }

pub returns-then-asks_issues : goal.returns-then-asks_issues
returns-then-asks_issues c =
    let f = c.first_fresh in
    let u = c.issues-word in
    let a = c.args in
    let m = machine_of a.m.now.issued a.m.now.places a.m.now.names a.m.now.holders a.m.now.acts a.m.now.rows a.m.now.sets in
    λ t L e v.
    let s = shown t m in
    rw c.unwrap_or.ensures (next_last t s a.spent.now a.at c.loop-j.j a.to u.result (unwrap_or f.result a.to) c.if-asks_issues.true c.loop-j-test.true c.requires.upto c.loop-j.invariant.0 (issue_set t s u.result v.fit.procs (u.ensures t s L (record { count = refl; actions = refl }) refl refl)) (fresh_or u.result a.spent.now c.loop-j.j a.to f.result f.ensures) (c.loop-j.invariant.2 t L e v))

pub open_word-word-requires : goal.open_word-word-requires
open_word-word-requires c =
    let p = c.requires.asking in
    record { issued = p.issued; few = p.few; holders_long = p.holders_long; low = omega (arith, c.if-asks_issues.false) }

pub first_fresh-requires-in-loop-j : goal.first_fresh-requires-in-loop-j
first_fresh-requires-in-loop-j c =
    let w = c.word_end-end.ensures in
    let p = c.requires in
    record { from = omega (arith, w.0); upto = omega (arith, w.1, p.upto); one = w.2 }

pub returns-in-Some : goal.returns-in-Some
returns-in-Some c =
    let f = c.in-Some in
    let u = c.unechoed-left in
    let o = c.open_word-word in
    let w = c.word_end-end in
    let a = c.args in
    let m = machine_of a.m.now.issued a.m.now.places a.m.now.names a.m.now.holders a.m.now.acts a.m.now.rows a.m.now.sets in
    λ t L e v.
    let s = shown t m in
    next_found t s a.spent.now a.at a.to f.i w.result
    (next_in t s a.spent.now a.at c.loop-j.j w.result o.result w.ensures.2 (o.ensures t s (arrays_of t m v a.program.now a.case.now.counts a.case.now.masks a.case.now.presets a.case.now.procs a.case.now.locs L)) u.result (u.ensures t s e (record { count = refl; actions = refl })) f.i c.loop-j.invariant.0 f.ensures.1 (c.loop-j.invariant.2 t L e v))
    f.ensures.0 w.ensures.1

pub loop-j-smaller : goal.loop-j-smaller
loop-j-smaller c = let w = c.word_end-end in omega (arith, c.next_word-j-in-loop-j.ensures.from, w.ensures.0, w.ensures.1)

pub loop-j-preserved : goal.loop-j-preserved
loop-j-preserved c =
    let n = c.next_word-j-in-loop-j in
    let u = c.unechoed-left in
    let o = c.open_word-word in
    let w = c.word_end-end in
    let q = c.queued_reads-reads in
    let a = c.args in
    let m = machine_of a.m.now.issued a.m.now.places a.m.now.names a.m.now.holders a.m.now.acts a.m.now.rows a.m.now.sets in (
      omega (arith, n.ensures.from, w.ensures.0, c.loop-j.invariant.0),
      n.ensures.upto,
      λ t L e v.
          let s = shown t m in
          pass_over t s a.spent.now a.at v.fit.procs q.result w.result a.to n.result (q.ensures t s v.kept) n.ensures
          (pass_more t s a.spent.now a.at a.to w.result w.result
          (next_in t s a.spent.now a.at c.loop-j.j w.result o.result w.ensures.2 (o.ensures t s (arrays_of t m v a.program.now a.case.now.counts a.case.now.masks a.case.now.presets a.case.now.procs a.case.now.locs L)) u.result (u.ensures t s e (record { count = refl; actions = refl })) w.result c.loop-j.invariant.0 c.in_default.ensures (c.loop-j.invariant.2 t L e v))
          (omega arith)),
    )

pub returns : goal.returns
returns c =
    let a = c.args in
    let m = machine_of a.m.now.issued a.m.now.places a.m.now.names a.m.now.holders a.m.now.acts a.m.now.rows a.m.now.sets in
    λ t L e v. next_none t (shown t m) a.spent.now a.at c.loop-j.j a.to c.loop-j.invariant.1 c.loop-j-test.false c.requires.rising (c.loop-j.invariant.2 t L e v)
