use mathlib.Core.Path.{◌≡◌, ◌∙◌, sym, ap, subst}
use mathlib.Core.Bool.{Bool, false, ◌||◌}
use Rattle.words.proofs.Bools.{below_make}
use Prim.Native.Nat.{ℕ}
use native.Mathlib.Omega.{arith}
use Rattle.words.specs.Small.{some_below}
use Rattle.orders.proofs.Reached.{below_none, below_next}
use Rattle.cases.specs.Case.{count_of, instr_at}
use Rattle.sure.specs.Sure.{backward}
use Rattle.choices.proofs.turns_back.Goals as goal

pub loop-i-init : goal.loop-i-init
loop-i-init c = let a = c.args in sym (below_none (λ k. backward (instr_at a.case.now a.p k) k))

pub bounds-case-p-in-loop-i : goal.bounds-case-p-in-loop-i
bounds-case-p-in-loop-i c = omega (arith, c.requires.fit.counts c.args.p, c.requires.proc)

pub returns-then-leads_back : goal.returns-then-leads_back
returns-then-leads_back c =
    let a = c.args in
    sym (below_make (count_of a.case.now a.p) (λ k. backward (instr_at a.case.now a.p k) k) c.loop-i.i c.loop-i-test.true (sym c.leads_back.ensures ∙ c.if-leads_back.true))

pub loop-i-preserved : goal.loop-i-preserved
loop-i-preserved c =
    let a = c.args in
    sym (below_next c.loop-i.i (λ k. backward (instr_at a.case.now a.p k) k) false c.leads_back.result (sym c.loop-i.invariant) c.leads_back.ensures) ∙ ap (λ (b : Bool). b || false) c.if-leads_back.false

pub returns : goal.returns
returns c =
    let a = c.args in
    let q : c.loop-i.i ≡ count_of a.case.now a.p = omega arith in
    sym (subst (λ (n : ℕ). some_below n (λ k. backward (instr_at a.case.now a.p k) k) ≡ false) q c.loop-i.invariant)
