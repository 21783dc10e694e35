use mathlib.Core.Path.{◌≡◌, ◌∙◌, sym, ap, subst}
use Rattle.words.proofs.Bools.{below_make}
use Prim.Native.Nat.{ℕ}
use native.Mathlib.Omega.{arith}
use Rattle.words.specs.Small.{some_below}
use Rattle.orders.proofs.Reached.{below_none, below_next}
use mathlib.Core.Bool.{Bool, false, ◌||◌, not}
use Rattle.cases.specs.Case.{count_of, instr_at}
use Rattle.sure.specs.Sure.{backward, forward as is_forward}
use Rattle.choices.proofs.forward.Goals as goal

pub loop-p-init : goal.loop-p-init
loop-p-init c = let a = c.args in sym (below_none (λ q. some_below (count_of a.case.now q) (λ i. backward (instr_at a.case.now q i) i)))

pub returns-then-turns_back : goal.returns-then-turns_back
unfolding is_forward
returns-then-turns_back c =
    let a = c.args in
    ap not (sym (below_make a.case.now.procs (λ q. some_below (count_of a.case.now q) (λ i. backward (instr_at a.case.now q i) i)) c.loop-p.p c.loop-p-test.true (sym c.turns_back.ensures ∙ c.if-turns_back.true)))

pub loop-p-preserved : goal.loop-p-preserved
loop-p-preserved c =
    let a = c.args in
    sym (below_next c.loop-p.p (λ q. some_below (count_of a.case.now q) (λ i. backward (instr_at a.case.now q i) i)) false c.turns_back.result (sym c.loop-p.invariant) c.turns_back.ensures) ∙ ap (λ (b : Bool). b || false) c.if-turns_back.false

pub returns : goal.returns
unfolding is_forward
returns c =
    let a = c.args in
    let q : c.loop-p.p ≡ a.case.now.procs = omega arith in
    ap not (sym (subst (λ (n : ℕ). some_below n (λ q. some_below (count_of a.case.now q) (λ i. backward (instr_at a.case.now q i) i)) ≡ false) q c.loop-p.invariant))
