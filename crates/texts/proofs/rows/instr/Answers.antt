use native.Mathlib.Omega.{arith}
use Rattle.cases.specs.declared.Instr.TheVariants.{Empty, Read, Write, Local, Branch, Goto, Acquire, Release}
use Rattle.lines.proofs.Behind.{laid_none}
use Rattle.texts.proofs.Numbered.{instr_laid}
use Rattle.texts.proofs.rows.instr.Goals as goal

pub returns-in-Empty : goal.returns-in-Empty
returns-in-Empty c =
    instr_laid c.args.i Empty 0 (omega arith) (cc) (record { laid = laid_none _ _; short = omega arith })

pub returns-in-Read : goal.returns-in-Read
returns-in-Read c =
    instr_laid c.args.i (Read c.in-Read.d c.in-Read.a) 17 (omega arith) c.in-Read.is c.numbered.ensures

pub returns-in-Write : goal.returns-in-Write
returns-in-Write c =
    instr_laid c.args.i (Write c.in-Write.a c.in-Write.b) 18 (omega arith) c.in-Write.is c.numbered-in-Write.ensures

pub returns-in-Local : goal.returns-in-Local
returns-in-Local c =
    instr_laid c.args.i (Local c.in-Local.d c.in-Local.e) 26 (omega arith) c.in-Local.is c.expr.ensures

pub returns-in-Branch : goal.returns-in-Branch
returns-in-Branch c =
    instr_laid c.args.i (Branch c.in-Branch.a c.in-Branch.l) 19 (omega arith) c.in-Branch.is c.numbered-in-Branch.ensures

pub returns-in-Goto : goal.returns-in-Goto
returns-in-Goto c =
    instr_laid c.args.i (Goto c.in-Goto.l) 11 (omega arith) c.in-Goto.is c.numbered-in-Goto.ensures

pub returns-in-Acquire : goal.returns-in-Acquire
returns-in-Acquire c =
    instr_laid c.args.i (Acquire c.in-Acquire.a) 14 (omega arith) c.in-Acquire.is c.numbered-in-Acquire.ensures

pub returns-in-Release : goal.returns-in-Release
returns-in-Release c =
    instr_laid c.args.i (Release c.in-Release.a) 14 (omega arith) c.in-Release.is c.numbered-in-Release.ensures
