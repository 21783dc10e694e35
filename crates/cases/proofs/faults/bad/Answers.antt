use mathlib.Core.Path.{ap, sym, ◌∙◌}
use Prim.Native.Nat.{ℕ}
use Rattle.cases.specs.Block.{bad}
use mathlib.Core.Bool.{Bool, ◌&&◌}
use lib.Dec.{eqb}
use Rattle.cases.proofs.Lowest.{bad_3, bad_4, bad_5, bad_6, bad_7, bad_else, last_code}
use Rattle.cases.proofs.faults.bad.Goals as goal

pub returns-in-3 : goal.returns-in-3
returns-in-3 c = let a = c.args in let q = c.in-3.is in c.bad3.ensures ∙ bad_3 a.block.now a.i ∙ ap (λ (n : ℕ). bad a.block.now n a.i) (sym q)

pub returns-in-4 : goal.returns-in-4
returns-in-4 c = let a = c.args in let q = c.in-4.is in c.bad4.ensures ∙ bad_4 a.block.now a.i ∙ ap (λ (n : ℕ). bad a.block.now n a.i) (sym q)

pub returns-in-5 : goal.returns-in-5
returns-in-5 c = let a = c.args in let q = c.in-5.is in c.bad5.ensures ∙ bad_5 a.block.now a.i ∙ ap (λ (n : ℕ). bad a.block.now n a.i) (sym q)

pub returns-in-6 : goal.returns-in-6
returns-in-6 c = let a = c.args in let q = c.in-6.is in c.bad6.ensures ∙ bad_6 a.block.now a.i ∙ ap (λ (n : ℕ). bad a.block.now n a.i) (sym q)

pub returns-in-7 : goal.returns-in-7
returns-in-7 c = let a = c.args in let q = c.in-7.is in c.bad7.ensures ∙ bad_7 a.block.now a.i ∙ ap (λ (n : ℕ). bad a.block.now n a.i) (sym q)

pub returns-in_default : goal.returns-in_default
returns-in_default c =
    let a = c.args in
    let p = c.requires in
    let no = c.in_default.in_default-own.rest in
    let q = last_code a.code p.0 no.0.0.0.0.1 no.0.0.0.1 no.0.0.1 no.0.1 no.1 in
    ap (λ (b : Bool). eqb a.code 19 && b) c.bad19.ensures ∙ bad_else a.block.now a.i a.code q
