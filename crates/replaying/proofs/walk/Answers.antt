use mathlib.Core.Path.{◌≡◌, ◌∙◌, sym, refl, subst}
use Prim.Native.Nat.{◌+◌, ◌*◌, ◌/◌, ◌≤◌}
use native.Mathlib.Omega.{arith}
use lib.ListN.{length, get_or}
use borrow.Author.Rules.{rules}
use Rattle.rules.specs.Step.{steps_of}
use Rattle.replaying.specs.Inner.{IsWalk}
use Rattle.replaying.proofs.Walking.{step_placing, reached_start, reached_next, reached_stop, reached_end}
use Rattle.replaying.proofs.walk.Goals as goal

pub loop-steps-init : goal.loop-steps-init
loop-steps-init c =
    let a = c.args in
    let m = c.start-m in
    (search rules, m.ensures.1, reached_start a.schedule.now a.case.now m.result m.ensures.0)

pub code_of-code-requires : goal.code_of-code-requires
code_of-code-requires c =
    let v = c.loop-steps.invariant.1 in
    record { issued = v.issued; few = v.fit.procs; counted = v.fit.counts; names_long = v.names_long; holders_long = v.holders_long }

pub place_of-requires : goal.place_of-requires
place_of-requires c =
    let a = c.args in
    let l = c.loop-steps in
    let is = c.code_of-code.ensures a.case.now (record { coded = c.program-program.ensures; counted = refl; starts = record { masks = refl; presets = refl }; present = refl; located = refl }) l.invariant.1 in
    step_placing a.schedule.now a.case.now l.steps l.m l.invariant.1 c.code_of-code.result is

pub returns-then-code-ne0 : goal.returns-then-code-ne0
returns-then-code-ne0 c =
    let a = c.args in
    let l = c.loop-steps in
    let inside : 4 * l.steps + 4 ≤ length a.schedule.now = omega (arith, l.invariant.0, c.loop-steps-test.true, c.requires.whole) in
    let is = c.code_of-code.ensures a.case.now (record { coded = c.program-program.ensures; counted = refl; starts = record { masks = refl; presets = refl }; present = refl; located = refl }) l.invariant.1 in
    reached_stop a.schedule.now a.case.now l.steps l.m inside l.invariant.2 c.code_of-code.result c.place_of.result l.invariant.1 is (c.place_of.ensures a.case.now l.m (get_or a.schedule.now (4 * l.steps + 3) 0) l.invariant.1 refl refl is) c.if-code-ne0.true

pub take-requires : goal.take-requires
take-requires c =
    let a = c.args in
    let l = c.loop-steps in
    let is = c.code_of-code.ensures a.case.now (record { coded = c.program-program.ensures; counted = refl; starts = record { masks = refl; presets = refl }; present = refl; located = refl }) l.invariant.1 in
    record { case = a.case.now; coded = c.program-program.ensures; accepted = record { valid = l.invariant.1; fits = sym is ∙ c.if-code-ne0.false } }

pub loop-steps-preserved : goal.loop-steps-preserved
loop-steps-preserved c =
    let a = c.args in
    let l = c.loop-steps in
    let inside : 4 * l.steps + 4 ≤ length a.schedule.now = omega (arith, l.invariant.0, c.loop-steps-test.true, c.requires.whole) in
    let is = c.code_of-code.ensures a.case.now (record { coded = c.program-program.ensures; counted = refl; starts = record { masks = refl; presets = refl }; present = refl; located = refl }) l.invariant.1 in
    let fits = sym is ∙ c.if-code-ne0.false in
    let r = c.take.ensures a.case.now c.program-program.ensures (record { masks = refl; presets = refl }) refl (record { valid = l.invariant.1; fits = fits }) in
    (omega (arith, inside), r.valid, reached_next a.schedule.now a.case.now l.steps l.m inside l.invariant.2 _ fits r)

pub returns : goal.returns
returns c =
    let a = c.args in
    let l = c.loop-steps in
    let all : length a.schedule.now / 4 ≡ l.steps = omega (arith, l.invariant.0, c.loop-steps-test.false) in
    subst (λ n. IsWalk a.case.now (steps_of a.schedule.now) (record { code = 0; steps = n; place = 255; machine = l.m })) (sym all) (reached_end a.schedule.now a.case.now l.steps l.m (omega (arith, l.invariant.0, c.loop-steps-test.false, c.requires.whole)) l.invariant.1 l.invariant.2)
