use Rattle.reading.proofs.Walking.{unended, untaken, going_on, ended_none, ended_some}
use borrow.Author.Rules.{rules}
use Rattle.reading.proofs.reader.walk.Goals as goal

pub returns-in_default : goal.returns-in_default
returns-in_default c = unended _ _ _ _ c.loop-at.invariant _ c.in_default.ensures.found (search rules) c.loop-at-test.true

pub returns-in_default-taken : goal.returns-in_default-taken
returns-in_default-taken c =
    let g = c.loop-at.invariant in
    untaken _ _ _ _ g c.in-Some.end c.in-Some.ensures.found c.in-Some.ensures.inside (c.in_default-taken.ensures g.draft g.holds)

pub loop-at-preserved : goal.loop-at-preserved
loop-at-preserved c =
    let g = c.loop-at.invariant in
    going_on _ _ _ _ g c.in-Some.end c.in-Some-taken.more c.in-Some.ensures.found c.in-Some.ensures.inside (c.in-Some-taken.ensures g.draft g.holds)

pub returns-in-Some-sheet : goal.returns-in-Some-sheet
returns-in-Some-sheet c = ended_some _ _ _ _ _ c.loop-at.invariant c.loop-at-test.false c.in-Some-sheet.is

pub returns-in-None : goal.returns-in-None
returns-in-None c = ended_none _ _ _ _ c.loop-at.invariant c.loop-at-test.false c.in-None.is
