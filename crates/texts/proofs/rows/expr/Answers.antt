use native.Mathlib.Omega.{arith}
use Rattle.cases.specs.declared.Expr.TheVariants.{Constant, Sum, Difference, Equal}
use Rattle.texts.proofs.Numbered.{expr_laid}
use Rattle.texts.proofs.rows.expr.Goals as goal

pub returns-in-Constant : goal.returns-in-Constant
returns-in-Constant c =
    expr_laid c.args.d c.args.e (Constant c.in-Constant.n) 16 (omega arith) c.in-Constant.is c.numbered.ensures

pub returns-in-Sum : goal.returns-in-Sum
returns-in-Sum c =
    expr_laid c.args.d c.args.e (Sum c.in-Sum.a c.in-Sum.b) 22 (omega arith) c.in-Sum.is c.numbered-in-Sum.ensures

pub returns-in-Difference : goal.returns-in-Difference
returns-in-Difference c =
    expr_laid c.args.d c.args.e (Difference c.in-Difference.a c.in-Difference.b) 22 (omega arith) c.in-Difference.is c.numbered-in-Difference.ensures

pub returns-in-Equal : goal.returns-in-Equal
returns-in-Equal c =
    expr_laid c.args.d c.args.e (Equal c.in-Equal.a c.in-Equal.b) 21 (omega arith) c.in-Equal.is c.numbered-in-Equal.ensures
