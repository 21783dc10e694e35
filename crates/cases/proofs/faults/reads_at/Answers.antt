use Rattle.std.proofs.Common.{◌≡◌, ap, ◌∙◌, ℕ, ◌%◌, ◌-◌}
use mathlib.Core.Bool.{not}
use native.Mathlib.Omega.{arith}
use borrow.Author.Tests.{eq-eqb}
use Rattle.cases.specs.Instruction.{field_at, is_read}
use Rattle.cases.proofs.Fields.{read_field}
use Rattle.cases.proofs.Registers.{op_unread, field_read}
use Rattle.cases.proofs.faults.reads_at.Goals as goal

pub returns-else-k-ne0 : goal.returns-else-k-ne0
returns-else-k-ne0 c =
    let h : (c.args.i - 92) % 6 ≡ 0 = omega (arith, c.saturating_sub-k.ensures, c.if-k-ne0.false) in
    ap not (eq-eqb (c.saturating_sub-k.result % 6) 0 c.if-k-ne0.false) ∙ op_unread c.args.op c.args.i h

pub returns-then-k-ne0 : goal.returns-then-k-ne0
returns-then-k-ne0 c =
    let a = c.args in
    field_read a.op a.i c.eq.result (λ h. absurd (omega (arith, c.if-k-ne0.true, c.saturating_sub-k.ensures)))
    (c.eq.ensures ∙ read_field c.field.result ∙ ap is_read (c.field.ensures ∙ ap (λ (n : ℕ). field_at a.op (n % 6 - 1)) c.saturating_sub-k.ensures))
