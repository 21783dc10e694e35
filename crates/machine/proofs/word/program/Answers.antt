use mathlib.Core.Path.{◌≡◌, refl, subst}
use native.Mathlib.Omega.{arith}
use Rattle.machine.proofs.Programs.{Coded, coded_more, program_of}
use borrow.Author.Rules.{rules}
use Rattle.machine.proofs.word.program.Goals as goal

pub loop-n-init : goal.loop-n-init
loop-n-init c = (refl, λ j l. absurd (omega arith))

pub loop-n-preserved : goal.loop-n-preserved
loop-n-preserved c = (search rules, coded_more c.args.case.now c.loop-n.out c.loop-n.invariant.0 c.loop-n.n c.code_of.result c.loop-n-test.true c.code_of.ensures c.loop-n.invariant.1)

pub returns : goal.returns
returns c =
    let q : c.loop-n.n ≡ 48 = omega arith in
    program_of c.args.case.now c.loop-n.out c.loop-n.invariant.0 c.requires (subst (Coded c.args.case.now c.loop-n.out) q c.loop-n.invariant.1)
