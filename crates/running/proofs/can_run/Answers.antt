use mathlib.Core.Path.{◌∙◌, ap, sym}
use mathlib.Core.Bool.{not}
use native.Mathlib.Omega.{arith}
use lib.ListN.{get_or}
use borrow.Author.Tests.{ltb-true, ltb-false}
use Rattle.cases.specs.Case.{count_of}
use Rattle.running.proofs.Operands.{absent_barred, end_barred, bars_is}
use Rattle.running.proofs.can_run.Goals.{then-p-case, else-p-case}
use Rattle.running.proofs.can_run.Goals as goal

pub returns-then-place-case : goal.returns-then-place-case
returns-then-place-case c =
    let a = c.args in
    let C = a.case.now in
    let place = get_or a.s.now.places a.p 0 in
    elim c.if-p-case.branch [
      | then-p-case w ↦
          let inside = ltb-true place (count_of C a.p) (sym w.value-is ∙ c.if-place-case.true) in
          ap not c.bars.ensures ∙ bars_is a.k C a.s.now a.p w.if-p-case.true inside c.requires.proc (c.requires.valid.fit.fine a.p place c.requires.proc inside)
      | else-p-case w ↦ absurd (omega (arith, ltb-true a.p C.procs (sym w.value-is ∙ c.if-place-case.true), w.if-p-case.false))
    ]

pub returns-else-place-case : goal.returns-else-place-case
returns-else-place-case c =
    let a = c.args in
    let C = a.case.now in
    let place = get_or a.s.now.places a.p 0 in
    c.if-place-case.false ∙ elim c.if-p-case.branch [
      | then-p-case w ↦ end_barred a.k C a.s.now a.p w.if-p-case.true (ltb-false place (count_of C a.p) (sym w.value-is ∙ c.if-place-case.false))
      | else-p-case w ↦ absent_barred a.k C a.s.now a.p w.if-p-case.false
    ]
