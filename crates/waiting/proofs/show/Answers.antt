use mathlib.Core.Path.{◌≡◌, ◌∙◌, refl, sym}
use mathlib.Core.Bool.{cond}
use native.Mathlib.Omega.{arith}
use lib.Dec.{ltb}
use lib.ListN.{get_or, length-set}
use Rattle.words.proofs.Lists.{filled_more}
use Rattle.machine.specs.Shown.{shown}
use borrow.Author.Tests.{lt-ltb, le-ltb}
use Rattle.progress.specs.Causes.{reason, reasons}
use Rattle.waiting.proofs.Reasons.{reasons_at, reasons_are}
use borrow.Author.Rules.{rules}
use Rattle.waiting.proofs.show.Goals as goal
use Rattle.waiting.proofs.show.Goals.{then-p-case, else-p-case}

pub loop-p-init : goal.loop-p-init
loop-p-init c = (search rules, search rules, λ j l. absurd (omega arith))

pub reason-requires : goal.reason-requires
reason-requires c =
    let valid = c.requires.valid in
    record { issued = valid.issued; holders_long = valid.holders_long; proc = c.loop-p-test.true }

pub loop-p-preserved : goal.loop-p-preserved
loop-p-preserved c =
    let a = c.args in
    let v = c.requires.valid in
    let s = shown a.case.now a.m.now in
    let byte : c.if-p-case.causes ≡ cond (ltb c.loop-p.p a.case.now.procs) (reason a.case.now s c.loop-p.p) 0 =
    elim c.if-p-case.branch [
      | then-p-case w ↦
          rw (lt-ltb c.loop-p.p a.case.now.procs w.if-p-case.true)
          (w.causes-is ∙ w.reason.ensures a.case.now s (record { masks = refl; presets = refl }) (record { count = refl; actions = refl }) (record { entries = v.entries; kept = v.kept; orders = refl; locks = refl; present = refl }))
      | else-p-case w ↦ rw (le-ltb c.loop-p.p a.case.now.procs w.if-p-case.false) w.causes-is
    ] in (
      search rules,
      length-set c.loop-p.causes c.loop-p.p _ ∙ c.loop-p.invariant.1,
      filled_more (λ j. get_or (reasons a.case.now s) j 0) 0 c.loop-p.causes c.loop-p.p c.if-p-case.causes (omega (arith, c.loop-p.invariant.1, c.loop-p-test.true))
          (byte ∙ sym (reasons_at a.case.now s c.loop-p.p c.loop-p-test.true))
          c.loop-p.invariant.2,
    )

pub returns : goal.returns
returns c =
    let a = c.args in
    reasons_are a.case.now (shown a.case.now a.m.now) c.loop-p.causes c.loop-p.invariant.1 (λ j l. c.loop-p.invariant.2 j (omega (arith, c.loop-p-test.false)))
