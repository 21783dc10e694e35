use Rattle.std.proofs.Common.{ap, sym, ◌∙◌}
use mathlib.Core.Bool.{◌||◌}
use lib.Dec.{ltb}
use native.Mathlib.Omega.{arith}
use borrow.Author.Tests.{eq-eqb, ne_eqb}
use Rattle.cases.proofs.Fields.{op_byte, field_byte}
use Rattle.cases.proofs.faults.bad_byte.Goals as goal

pub returns-then-op-eq0 : goal.returns-then-op-eq0
returns-then-op-eq0 c =
    let a = c.args in
    eq-eqb a.op 0 c.if-op-eq0.true ∙ sym (ap (λ b. b || ltb 10 a.op) (eq-eqb a.op 0 c.if-op-eq0.true)) ∙ op_byte a.block.now a.op a.n a.i (omega (arith, c.saturating_sub-k.ensures))

pub returns-else-op-eq0 : goal.returns-else-op-eq0
returns-else-op-eq0 c =
    let a = c.args in
    sym (ap (λ b. b || ltb 10 a.op) (ne_eqb a.op 0 c.if-op-eq0.false)) ∙ op_byte a.block.now a.op a.n a.i (omega (arith, c.saturating_sub-k.ensures))

pub returns-else-k-eq0 : goal.returns-else-k-eq0
returns-else-k-eq0 c =
    let a = c.args in
    rw (c.bad_field.ensures, c.word.ensures, c.number.ensures.is, c.field.ensures, c.saturating_sub-k.ensures) (field_byte a.block.now a.op a.n a.i (λ h. absurd (omega (arith, c.if-k-eq0.false, c.saturating_sub-k.ensures))))
