use Rattle.openings.proofs.Opens.{ready_held, ready_known}
use Rattle.words.proofs.Bools.{or_none}
use Rattle.rules.specs.Kinds.{kind}
use borrow.Author.Tests.{leb-false}
use mathlib.Core.Bool.{Bool, not, ◌||◌}
use mathlib.Core.Path.{refl, sym, ap, ◌∙◌}
use native.Mathlib.Omega.{arith}
use Rattle.openings.proofs.read_ready.Goals as goal

pub returns-then-not-held : goal.returns-then-not-held
returns-then-not-held c =
    let h = c.held in
    let a = c.args in
    let b = or_none _ _ c.if-is_read-e.false in
    λ t s rows E. ready_known t s a.case.now.masks rows a.sets.now a.case.now.procs a.e a.k E (kind a.e.instr) refl (ap (λ (x : Bool). not x || a.e.done) (sym c.is_read.ensures) ∙ b.0) (leb-false a.case.now.procs a.e.proc b.1) a.e.proc h.result refl (h.ensures t s E.kept (omega (arith, E.there))) c.known.result c.if-not-held.true (c.known.ensures t s (record { kept = E.kept; ends = E.ends; presets = E.presets }))

pub returns-else-not-held : goal.returns-else-not-held
returns-else-not-held c =
    let h = c.held in
    let a = c.args in
    let b = or_none _ _ c.if-is_read-e.false in
    λ t s rows E. ap not c.if-not-held.false ∙ ready_held t s a.case.now.masks rows a.sets.now a.case.now.procs a.e a.k E (kind a.e.instr) refl (ap (λ (x : Bool). not x || a.e.done) (sym c.is_read.ensures) ∙ b.0) (leb-false a.case.now.procs a.e.proc b.1) a.e.proc h.result refl (h.ensures t s E.kept (omega (arith, E.there))) c.if-not-held.false
