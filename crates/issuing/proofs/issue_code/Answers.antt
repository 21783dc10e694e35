use mathlib.Core.Path.{◌∙◌, ap}
use Prim.Native.Nat.{ℕ, ◌+◌, ◌*◌}
use native.Mathlib.Omega.{arith}
use lib.ListN.{get_or}
use Rattle.rules.specs.State.{value_of}
use Rattle.machine.specs.Shown.{name_of, shown_value}
use Rattle.issuing.proofs.Refusing.{code_undefined, code_end, code_full, code_rest}
use Rattle.issuing.proofs.issue_code.Goals as goal

pub returns-then-place : goal.returns-then-place
returns-then-place c =
    let a = c.args in
    λ k s l h q n. code_undefined k s a.p (get_or a.m.now.places a.p 0) q c.if-place.true

pub returns-then-case-p : goal.returns-then-case-p
returns-then-case-p c =
    let a = c.args in
    λ k s l h q n. code_end k s a.p (get_or a.m.now.places a.p 0) q c.if-place.false l c.if-case-p.true

pub returns-then-m-ge48 : goal.returns-then-m-ge48
returns-then-m-ge48 c =
    let a = c.args in
    λ k s l h q n. code_full k s a.p (get_or a.m.now.places a.p 0) q c.if-place.false l c.if-case-p.false (omega (arith, h.count))

pub returns : goal.returns
returns c =
    let a = c.args in
    λ k s l h q n.
    c.address_code.ensures
    ∙ code_rest k s a.p (get_or a.m.now.places a.p 0) q c.if-place.false l a.m.now.names c.instr_at-i.result (shown_value c.named.result) c.requires.proc n c.instr_at-i.ensures c.if-case-p.false (omega (arith, h.count))
    (c.named.ensures k s l.starts h ∙ ap (λ (x : ℕ). value_of s (name_of k x)) (c.name_at-name.ensures ∙ ap (λ (n : ℕ). get_or a.m.now.names (8 * a.p + n) 0) c.first_read.ensures))
