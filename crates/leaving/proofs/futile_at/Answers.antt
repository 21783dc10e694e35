use Rattle.rules.specs.Kinds.{kind}
use mathlib.Core.Path.{◌∙◌, sym, ap}
use mathlib.Core.Bool.{false≢true}
use mathlib.Core.Option.{Option}
use Prim.Native.Nat.{ℕ}
use native.Mathlib.Omega.{arith}
use lib.ListN.{get_or}
use Rattle.words.specs.Small.{or_zero}
use Rattle.rules.specs.Commit.{barred}
use Rattle.rules.specs.State.{value_of}
use Rattle.machine.specs.Shown.{holder_of, name_of}
use Rattle.committing.proofs.Inputs.{barred_input}
use Rattle.leaving.proofs.Leaves.{futile_test}
use Rattle.leaving.proofs.futile_at.Goals as goal

pub returns-then-p-ge4 : goal.returns-then-p-ge4
returns-then-p-ge4 c = λ x s v t. absurd (false≢true t)

pub returns : goal.returns
returns c =
    let a = c.args in
    let e = a.e in
    let q = c.kind_of-kind.ensures.0 in
    λ x s v t.
    let g = c.holder_at.ensures ∙ ap (λ (n : ℕ). get_or a.m.now.holders n 0) v.input in
    let bars = c.barred_by-bars.ensures ∙ (λ j. barred e.proc (q j) (holder_of (g j))) ∙ ap (λ (f : ℕ → Option ℕ). barred e.proc (kind e.instr) (f (or_zero (value_of s (name_of x e.first))))) (sym v.locks) ∙ barred_input x s e.first e.second e.proc s.holders e.instr in
    let behind = c.held-behind.ensures x s v.names.kept (omega (arith, v.there)) in
    sym (futile_test x s a.k e v.action c.kind_of-kind.result q c.unready-unset.result c.barred_by-bars.result c.held-behind.result (c.unready-unset.ensures x s v.names) bars behind) ∙ t
