use mathlib.Core.Path.{◌≡◌, ap, sym, ◌∙◌}
use mathlib.Core.Bool.{◌||◌, true}
use Prim.Native.Nat.{ℕ, ◌+◌, ◌-◌, max}
use lib.Dec.{ltb, leb}
use native.Mathlib.Omega.{arith}
use borrow.Author.Tests.{lt-ltb}
use Rattle.words.proofs.Bools.{or_left, or_right}
use Rattle.judging.specs.Draft.{from}
use Rattle.drafting.proofs.Sheets.{op_ok_lem, shows_op, op_accepted}
use Rattle.drafting.proofs.state.step_op.Goals as goal
use Rattle.drafting.proofs.state.step_op.Goals.{then-i-gt0, else-i-gt0}

pub returns : goal.returns
returns c = λ d sh.
    let a = c.args in
    let j = c.saturating_sub-i.result in
    let e : j ≡ d.next - from a.p = omega (arith, c.saturating_sub-i.ensures, sh.next) in
    let may : (ltb 0 j || leb a.s.need a.s.next) ≡ true = elim c.if-i-gt0.branch [ then-i-gt0 w ↦ or_left (ltb 0 j) (leb a.s.need a.s.next) (lt-ltb 0 j w.if-i-gt0.true) | else-i-gt0 w ↦ or_right (ltb 0 j) (leb a.s.need a.s.next) (sym w.open-is ∙ c.if-not-open.false) ] in
    op_accepted _ d a.p j a.x e (op_ok_lem d a.p j a.x (omega (arith, sh.procs)) (omega arith) (sym c.low_instr.ensures ∙ c.if-not-low_instr.false) (omega (arith, c.label-l.ensures)) ((λ t. ltb 0 j || leb (sym sh.need t) (sym sh.next t)) ∙ may)) (shows_op a.s a.p j _ a.x d (omega arith) (omega arith) e (c.max.ensures ∙ ap (λ (l : ℕ). max a.s.need (from a.p + l)) c.label-l.ensures) sh)
