use mathlib.Core.Path.{refl}
use mathlib.Core.List.{[], ◌∷◌}
use native.Mathlib.Omega.{arith}
use Rattle.lines.specs.Quoted.{quoted}
use Rattle.lines.specs.Decimal.{decimal}
use Rattle.texts.specs.Text.{instr_words}
use Rattle.texts.specs.declared.Row.TheVariants.{Head, Old, Mem, Reg, Op}
use Rattle.texts.proofs.Numbered.{row_laid, op_laid}
use Rattle.texts.proofs.rows.row_body.Goals as goal

pub returns-in-Head : goal.returns-in-Head
returns-in-Head c =
    let done = row_laid c.args.row (Head c.in-Head.p c.in-Head.m) (quoted "case") (decimal c.in-Head.p ∷ decimal c.in-Head.m ∷ []) 16 (omega arith) c.in-Head.is refl c.numbered.ensures in
    record { laid = done.laid; short = done.short }

pub returns-in-Old : goal.returns-in-Old
returns-in-Old c =
    let done = row_laid c.args.row (Old c.in-Old.p c.in-Old.m c.in-Old.u) (quoted "case") (decimal c.in-Old.p ∷ decimal c.in-Old.m ∷ decimal c.in-Old.u ∷ []) 22 (omega arith) c.in-Old.is refl c.numbered-in-Old.ensures in
    record { laid = done.laid; short = done.short }

pub returns-in-Mem : goal.returns-in-Mem
returns-in-Mem c =
    let done = row_laid c.args.row (Mem c.in-Mem.l c.in-Mem.v) (quoted "mem") (decimal c.in-Mem.l ∷ decimal c.in-Mem.v ∷ []) 15 (omega arith) c.in-Mem.is refl c.numbered-in-Mem.ensures in
    record { laid = done.laid; short = done.short }

pub returns-in-Reg : goal.returns-in-Reg
returns-in-Reg c =
    let done = row_laid c.args.row (Reg c.in-Reg.p c.in-Reg.k c.in-Reg.v) (quoted "reg") (decimal c.in-Reg.p ∷ decimal c.in-Reg.k ∷ decimal c.in-Reg.v ∷ []) 21 (omega arith) c.in-Reg.is refl c.numbered-in-Reg.ensures in
    record { laid = done.laid; short = done.short }

pub returns-in-Op : goal.returns-in-Op
returns-in-Op c =
    let done = row_laid c.args.row (Op c.in-Op.p c.in-Op.i) (quoted "op") (decimal c.in-Op.p ∷ instr_words c.in-Op.i) 34 (omega arith) c.in-Op.is refl (op_laid (quoted "op") c.in-Op.p c.in-Op.i c.numbered-behind_number.ensures c.instr.ensures) in
    record { laid = done.laid; short = done.short }
