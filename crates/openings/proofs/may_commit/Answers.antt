use Rattle.openings.proofs.Opens.{proc_at_lem, absent_commit, present_commit}
use borrow.Author.Tests.{le-ltb}
use native.Mathlib.Omega.{arith}
use mathlib.Core.Path.{◌∙◌}
use Rattle.openings.proofs.may_commit.Goals as goal

pub returns-then-e-case : goal.returns-then-e-case
returns-then-e-case c =
    let e = c.entry_at-e in
    let a = c.args in
    λ t s E.
    present_commit t s a.k 0 e.result.proc c.commit_code.result (proc_at_lem t a.m.now.issued a.m.now.acts s E.shows a.k c.requires.there e.result e.ensures) (omega (arith, c.if-e-case.true, E.present)) (c.commit_code.ensures t s E.starts E.shows E.arrays)

pub returns-else-e-case : goal.returns-else-e-case
returns-else-e-case c =
    let e = c.entry_at-e in
    let a = c.args in
    λ t s E.
    le-ltb e.result.proc a.case.now.procs c.if-e-case.false ∙ absent_commit t s a.k 0 e.result.proc (proc_at_lem t a.m.now.issued a.m.now.acts s E.shows a.k c.requires.there e.result e.ensures) (omega (arith, c.if-e-case.false, E.present))
