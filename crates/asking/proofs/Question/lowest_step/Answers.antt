use mathlib.Core.Path.{◌≡◌, subst}
use Prim.Native.Nat.{suc, ◌-◌}
use native.Mathlib.Omega.{arith}
use Rattle.clauses.specs.Wanted.{wanted}
use Rattle.machine.specs.Shown.{shown}
use Rattle.asking.specs.Inner.{InReach}
use Rattle.asking.proofs.Descent.{passed_start, passed_more, passed_all, lowest_here}
use Rattle.asking.proofs.Question.lowest_step.Goals as goal

pub loop-i-init : goal.loop-i-init
loop-i-init c = let a = c.args in passed_start a.self.now.case (wanted a.self.now.asked) (shown a.self.now.case a.m.now) (a.n - 1)

pub row_span-requires : goal.row_span-requires
row_span-requires c = record { valid = c.requires.standing.valid; reached = c.requires.standing.reached; low = c.loop-i-test.true }

pub first_in_reach-requires : goal.first_in_reach-requires
first_in_reach-requires c = record { standing = c.requires.standing; more = c.requires.more; rising = c.row_span.ensures.rising; upto = c.row_span.ensures.upto }

pub returns-in-Some : goal.returns-in-Some
returns-in-Some c =
    let a = c.args in
    let first = c.in-Some.ensures in
    lowest_here a.self.now.case (wanted a.self.now.asked) (shown a.self.now.case a.m.now) (a.n - 1) c.loop-i.invariant c.row_span.ensures c.in-Some.j first.0 c.requires.standing.valid.issued first.1

pub loop-i-preserved : goal.loop-i-preserved
loop-i-preserved c =
    let a = c.args in
    passed_more a.self.now.case (wanted a.self.now.asked) (shown a.self.now.case a.m.now) (a.n - 1) c.loop-i.invariant c.row_span.ensures c.row_span.result.end c.in_default.ensures (omega arith)

pub returns : goal.returns
returns c =
    let a = c.args in
    let valid = c.requires.standing.valid in
    let one : a.n ≡ suc (a.n - 1) = omega (arith, c.requires.more) in
    absurd (passed_all a.self.now.case (wanted a.self.now.asked) (shown a.self.now.case a.m.now) (a.n - 1) c.loop-i.invariant c.loop-i-test.false valid.issued valid.fit.procs c.requires.undone (subst (InReach a.self.now.case (wanted a.self.now.asked) (shown a.self.now.case a.m.now)) one c.requires.held))
