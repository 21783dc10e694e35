use mathlib.Core.Path.{refl, sym, subst}
use Rattle.handoffs.specs.Verdict.{Handed, IsVerdict}
use native.Mathlib.Omega.{arith}
use Rattle.handoffs.proofs.Shapes.{legal-parts, few_long}
use Rattle.handoffs.proofs.Parts.{judge_fit, judge_small, judge_few, judge_level, judged_stale, judged_safe, judged_stuck}
use Rattle.handoffs.proofs.judge.Goals as goal

-- The lowest stale schedule; else whether any run finishes. Assumes nothing.
pub case_for-case-requires : goal.case_for-case-requires
case_for-case-requires c =
    let s = c.args.sending.now in
    let r = c.args.receiving.now in
    let L = legal-parts s r c.requires.lawful in
    record { sender = few_long s L.sender; receiver = few_long r L.receiver }

pub overflow_add-n : goal.overflow_add-n
overflow_add-n c =
    let s = c.args.sending.now in
    let r = c.args.receiving.now in
    omega (arith, judge_small s r c.requires.lawful c.case_for-case.ensures c.plan_of-s.ensures c.plan_of-r.ensures)

pub overflow_mul-n : goal.overflow_mul-n
overflow_mul-n c =
    let s = c.args.sending.now in
    let r = c.args.receiving.now in
    omega (arith, judge_small s r c.requires.lawful c.case_for-case.ensures c.plan_of-s.ensures c.plan_of-r.ensures)

pub stalest-requires : goal.stalest-requires
stalest-requires c =
    let s = c.args.sending.now in
    let r = c.args.receiving.now in
    let h = c.requires.lawful in
    let x = c.case_for-case.ensures in
    let y = c.plan_of-s.ensures in
    let z = c.plan_of-r.ensures in
    record { fit = judge_fit s r h x y z; bound = judge_small s r h x y z; few = judge_few s r h x y z; level = judge_level s r h x y z; long = c.requires.long }

pub returns-in-Some : goal.returns-in-Some
returns-in-Some c =
    let s = c.args.sending.now in
    let r = c.args.receiving.now in
    subst (λ (x : Handed). IsVerdict s r x c.stalest.new.out) (sym c.told.ensures) (judged_stale s r c.requires.lawful c.case_for-case.ensures c.plan_of-s.ensures c.plan_of-r.ensures c.in-Some.ensures refl)

pub finishes-requires : goal.finishes-requires
finishes-requires c =
    let s = c.args.sending.now in
    let r = c.args.receiving.now in
    let h = c.requires.lawful in
    let x = c.case_for-case.ensures in
    let y = c.plan_of-s.ensures in
    let z = c.plan_of-r.ensures in
    record { fit = judge_fit s r h x y z; bound = judge_small s r h x y z }

pub returns-then-finishes : goal.returns-then-finishes
returns-then-finishes c =
    let s = c.args.sending.now in
    let r = c.args.receiving.now in
    subst (λ (x : Handed). IsVerdict s r x c.stalest.new.out) (sym c.told-then-finishes.ensures) (judged_safe s r c.requires.lawful c.case_for-case.ensures c.plan_of-s.ensures c.plan_of-r.ensures c.in_default.ensures refl c.finishes.ensures c.if-finishes.true)

pub returns-else-finishes : goal.returns-else-finishes
returns-else-finishes c =
    let s = c.args.sending.now in
    let r = c.args.receiving.now in
    subst (λ (x : Handed). IsVerdict s r x c.stalest.new.out) (sym c.told-else-finishes.ensures) (judged_stuck s r c.requires.lawful c.case_for-case.ensures c.plan_of-s.ensures c.plan_of-r.ensures c.in_default.ensures refl c.finishes.ensures c.if-finishes.false)
