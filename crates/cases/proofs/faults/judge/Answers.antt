use Rattle.std.proofs.Common.{◌≡◌, rules, ◌<◌, subst}
use native.Mathlib.Omega.{arith}
use lib.ListN.{get_or}
use Rattle.cases.specs.Block.{lowest, bad}
use Rattle.cases.proofs.Lowest.{Passed, codes, passed_more, judge_found, judge-none}
use Rattle.cases.proofs.faults.judge.Goals as goal

pub loop-code-preserved : goal.loop-code-preserved
loop-code-preserved c =
    let s = c.args.block.now in
    let n = c.loop-code.code-index in
    let e : 510 ≡ lowest 510 (bad s (get_or codes n 0)) = search rules in
    passed_more s n c.loop-code.invariant (omega arith)

pub returns-in-Some : goal.returns-in-Some
returns-in-Some c =
    let s = c.args.block.now in
    let n = c.loop-code.code-index in
    let position = c.in-Some.position in
    let e : position ≡ lowest 510 (bad s (get_or codes n 0)) = search rules in
    let h : position < 510 = search rules in
    judge_found s n position c.loop-code-test.true c.loop-code.invariant e h

pub returns : goal.returns
returns c =
    let e : c.loop-code.code-index ≡ 6 = omega arith in
    judge-none c.args.block.now (subst (Passed c.args.block.now) e c.loop-code.invariant)
