use Rattle.choices.proofs.Fresh.{remain_first, remain_others, fresh-none, fresh_past, fresh_here}
use native.Mathlib.Omega.{arith}
use mathlib.Core.Path.{◌∙◌, sym}
use Rattle.choices.proofs.first_fresh.Goals as goal

pub loop-rest-init : goal.loop-rest-init
loop-rest-init c = remain_first c.args.word c.args.spent.now c.args.j c.ranges.word.fits

pub overflow_add-i : goal.overflow_add-i
overflow_add-i c = omega (arith, c.lowest.ensures.upto, c.requires.from, c.requires.upto)

pub returns-then-end-i : goal.returns-then-end-i
returns-then-end-i c =
    let e = c.lowest in
    let a = c.args in
    fresh_past a.word a.spent.now a.j a.end c.requires c.loop-rest.rest c.loop-rest.invariant e.result e.ensures c.if-end-i.true

pub returns-then-not-is_spent : goal.returns-then-not-is_spent
returns-then-not-is_spent c =
    let i = c.is_spent in
    let e = c.lowest in
    let a = c.args in
    (c.if-end-i.false, fresh_here a.word a.spent.now a.j a.end c.requires c.loop-rest.rest c.loop-rest.invariant e.result e.ensures c.loop-rest-test.true c.if-end-i.false (sym i.ensures ∙ c.if-not-is_spent.true))

pub loop-rest-preserved : goal.loop-rest-preserved
loop-rest-preserved c =
    let i = c.is_spent in
    let e = c.lowest in
    let a = c.args in
    remain_others a.word a.spent.now a.j a.end c.requires c.loop-rest.rest c.loop-rest.invariant e.result e.ensures (sym i.ensures ∙ c.if-not-is_spent.false) c.others-rest.result (c.others-rest.ensures.1 e.result e.ensures)

pub returns : goal.returns
returns c =
    let a = c.args in
    fresh-none a.word a.spent.now a.j a.end c.requires c.loop-rest.rest c.loop-rest.invariant (omega arith)
