use mathlib.Core.Path.{◌≡◌, ◌∙◌, refl, sym, subst}
use Prim.Native.Nat.{ℕ}
use Rattle.races.specs.Test.{first_of_race, second_of_race}
use Rattle.machine.specs.Shown.{shown}
use Rattle.replaying.proofs.Answers.{codes_are}
use Rattle.racing.specs.Answer.{alone, IsRace}
use Rattle.racing.proofs.Answers.{refused_as, stepped_as, waiting_as, raced_as}
use Rattle.racing.proofs.race.Goals as goal

pub returns-in-Err : goal.returns-in-Err
returns-in-Err c =
    let a = c.args in
    let r = c.in-Err.r in
    let e = c.in-Err.ensures.refused in
    subst (IsRace a.block.now a.schedule.now) (sym (c.refused.ensures ∙ (λ j. record { code = r.code; first = 255; second = 255; steps = e.steps j; place = e.place j; position = r.position })))
    (refused_as a.block.now a.schedule.now r.code r.position (e.code ∙ codes_are alone a.block.now a.schedule.now 0) e.some e.position)

pub returns-then-w-ne0 : goal.returns-then-w-ne0
returns-then-w-ne0 c =
    let a = c.args in
    let t = c.in-Ok.field-0 in
    let u = c.in-Ok.ensures.taken in
    let z = sym u.accepted ∙ codes_are alone a.block.now a.schedule.now 0 in
    subst (IsRace a.block.now a.schedule.now) (sym c.refused-then-w-ne0.ensures) (stepped_as a.block.now a.schedule.now z t.case u.case t.walked u.walk c.if-w-ne0.true)

pub returns-then-queued : goal.returns-then-queued
returns-then-queued c =
    let a = c.args in
    let t = c.in-Ok.field-0 in
    let u = c.in-Ok.ensures.taken in
    let z = sym u.accepted ∙ codes_are alone a.block.now a.schedule.now 0 in
    let s = shown t.case t.walked.machine in
    subst (IsRace a.block.now a.schedule.now) (sym c.refused-then-queued.ensures)
    (waiting_as a.block.now a.schedule.now z t.case u.case t.walked u.walk c.if-w-ne0.false (sym c.if-queued.true ∙ c.queued.ensures t.case s (record { count = refl; actions = refl })))

pub first-requires : goal.first-requires
first-requires c = c.in-Ok.ensures.taken.walk.valid.issued

pub returns-else-queued : goal.returns-else-queued
returns-else-queued c =
    let a = c.args in
    let t = c.in-Ok.field-0 in
    let u = c.in-Ok.ensures.taken in
    let z = sym u.accepted ∙ codes_are alone a.block.now a.schedule.now 0 in
    let s = shown t.case t.walked.machine in
    let pair = c.first.ensures t.case s (record { count = refl; actions = refl }) refl u.walk.valid.entries in
    raced_as a.block.now a.schedule.now z t.case u.case t.walked u.walk c.if-w-ne0.false _ _ (sym c.if-queued.false ∙ c.queued.ensures t.case s (record { count = refl; actions = refl }))
    (subst (λ (p : ℕ × ℕ). (p.0 ≡ first_of_race s) × (p.1 ≡ second_of_race s)) (sym c.unwrap_or-first.ensures) pair)
