use mathlib.Core.Logic.{⊎_elim}
use Rattle.cases.specs.Block.{bad}
use Rattle.cases.proofs.Skipping.{stay, skip_5, skip_6, skip_7, skip_19}
use Rattle.cases.proofs.faults.skip.Goals as goal

pub returns-in-5 : goal.returns-in-5
returns-in-5 c =
    let a = c.args in
    let d = c.next_marked.ensures in
    ⊎_elim (λ e. skip_5 a.block.now a.code a.i _ e d) (λ e. skip_7 a.block.now a.code a.i _ e d) c.in-5.is

pub returns-in-6 : goal.returns-in-6
returns-in-6 c =
    let a = c.args in
    let d = c.next_used.ensures in
    ⊎_elim (λ e. skip_6 a.block.now a.code a.i _ e d) (λ e. skip_19 a.block.now a.code a.i _ e d) c.in-6.is

pub returns-in_default : goal.returns-in_default
returns-in_default c =
    stay (bad c.args.block.now c.args.code) c.args.i c.requires.from
