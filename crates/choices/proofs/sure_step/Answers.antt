use Rattle.std.specs.Option.{unwrap_or}
use Rattle.choices.proofs.Found.{dead_or}
use native.Mathlib.Omega.{arith}
use Rattle.choices.proofs.Answers.{sure-lone, sure_issue, sure_dead}
use Rattle.openings.proofs.Opens.{arrays_of, entries_of, issue_accepts}
use Rattle.machine.specs.Shown.{shown}
use Rattle.machine.specs.Lent.{machine_of}
use mathlib.Core.Path.{refl, sym}
use Rattle.choices.proofs.sure_step.Goals as goal

pub returns-in-Some : goal.returns-in-Some
returns-in-Some c =
    let a = c.args in
    let m = machine_of a.m.now.issued a.m.now.places a.m.now.names a.m.now.holders a.m.now.acts a.m.now.rows a.m.now.sets in
    λ t L q v. sure-lone t (shown t m) a.marked a.n c.in-Some.k (c.in-Some.ensures.found t (shown t m) (arrays_of t m v a.program.now a.case.now.counts a.case.now.masks a.case.now.presets a.case.now.procs a.case.now.locs L)) c.in-Some.ensures.low

pub issuer-requires : goal.issuer-requires
issuer-requires c = let p = c.requires.asking in record { issued = p.issued; few = p.few; counted = p.counted; names_long = p.names_long }

pub returns-in-Some-issuer : goal.returns-in-Some-issuer
returns-in-Some-issuer c =
    let p = c.in-Some-issuer in
    let a = c.args in
    let m = machine_of a.m.now.issued a.m.now.places a.m.now.names a.m.now.holders a.m.now.acts a.m.now.rows a.m.now.sets in
    λ t L q v.
    let s = shown t m in
    sure_issue t s a.marked a.n 48 (c.in_default.ensures.found t s (arrays_of t m v a.program.now a.case.now.counts a.case.now.masks a.case.now.presets a.case.now.procs a.case.now.locs L)) p.p p.ensures.low
    (issue_accepts t s p.p (p.ensures.opened t s L (record { count = refl; actions = refl }) refl refl))
    (rw (sym q) c.if-marked-ahead.true)

pub returns : goal.returns
returns c =
    let d = c.first_dead in
    let a = c.args in
    let m = machine_of a.m.now.issued a.m.now.places a.m.now.names a.m.now.holders a.m.now.acts a.m.now.rows a.m.now.sets in
    λ t L q v.
    let s = shown t m in
    rw c.unwrap_or.ensures
    (sure_dead t s a.marked a.n 48 (c.in_default.ensures.found t s (arrays_of t m v a.program.now a.case.now.counts a.case.now.masks a.case.now.presets a.case.now.procs a.case.now.locs L)) (omega arith) (unwrap_or d.result 3200)
    (dead_or t s d.result (d.ensures t s (entries_of t m v a.program.now a.case.now.counts a.case.now.masks a.case.now.presets a.case.now.procs a.case.now.locs L) refl)))
