use mathlib.Core.Path.{◌≡◌, ◌∙◌, sym, ap, ap₂}
use mathlib.Core.Logic.{⊎_elim}
use Prim.Native.Nat.{ℕ, ◌+◌, ◌*◌}
use native.Mathlib.Omega.{arith}
use lib.Dec.{ltb}
use lib.ListN.{get_or}
use borrow.Author.Tests.{le-ltb}
use Rattle.words.proofs.Bools.{and_left, and_right}
use Rattle.rules.specs.State.{Action}
use Rattle.issuing.specs.Issued.{assigned_by}
use Rattle.machine.specs.Shown.{name_of}
use Rattle.sure.specs.Dead.{is_given}
use Rattle.needless.proofs.Ignoring.{holds_in_lem, holds_out}
use Rattle.needless.proofs.holds_on.Goals as goal

pub returns-then-d-lt8 : goal.returns-then-d-lt8
returns-then-d-lt8 c =
    let d = c.assigned-d in
    let a = c.args in
    λ k s o h.
    let p : a.e.proc ≡ (s.actions a.k).proc = sym (ap (λ (x : Action). x.proc) h) in
    c.is_given.ensures k ∙ ap₂ (λ (p d : ℕ). is_given a.k (name_of k (get_or a.names.now (8 * p + d) 0))) p d.ensures
    ∙ holds_in_lem k a.names.now a.k s o a.e.instr (omega (arith, p, c.if-p-lt4.true)) (omega (arith, d.ensures, c.if-d-lt8.true))

pub returns-else-p-lt4 : goal.returns-else-p-lt4
returns-else-p-lt4 c =
    let d = c.assigned-d.ensures in
    let a = c.args in
    λ k s o h.
    let p : a.e.proc ≡ (s.actions a.k).proc = sym (ap (λ (x : Action). x.proc) h) in
    holds_out k a.names.now a.k s o a.e.instr (⊎_elim
    (λ t. and_right (ltb (s.actions a.k).proc 4) _ (le-ltb (assigned_by a.e.instr) 8 (omega (arith, d, t.1))))
    (λ t. and_left (ltb (s.actions a.k).proc 4) _ (le-ltb (s.actions a.k).proc 4 (omega (arith, p, t))))
    c.else-p-lt4.either)
