use Rattle.cases.specs.declared.Instr.TheVariants.{Empty}
use mathlib.Core.Path.{refl, ap, ◌∙◌, subst}
use mathlib.Core.List.{List}
use Prim.Native.Nat.{ℕ, ◌+◌, ◌*◌}
use native.Mathlib.Omega.{arith}
use lib.ListN.{length, get_or}
use Rattle.cases.specs.Block.{slot_bytes}
use Rattle.cases.specs.Putting.{Put}
use Rattle.cases.proofs.Puts.{six-wide, parts_none, parts_more, parts_all}
use Rattle.cases.proofs.writing.put_code.Goals as goal

pub loop-n-init : goal.loop-n-init
loop-n-init c = (refl, parts_none slot_bytes 6 six-wide c.args.code.now c.args.block.now 92)

pub put-requires : goal.put-requires
put-requires c =
    let wide = six-wide (get_or c.args.code.now c.loop-n.n (record { instr = Empty })) in
    omega (arith, ap length c.instr_bytes.ensures ∙ wide, c.loop-n.invariant.0, c.requires)

pub loop-n-preserved : goal.loop-n-preserved
loop-n-preserved c =
    let a = c.args in (
      c.put.ensures.long ∙ c.loop-n.invariant.0,
      parts_more slot_bytes 6 six-wide a.code.now a.block.now 92 c.loop-n.block c.put.new.block c.loop-n.n (record { instr = Empty }) (omega (arith, c.well_formed)) c.loop-n.invariant.1 (subst (λ (l : List ℕ). Put c.loop-n.block (92 + 6 * c.loop-n.n) l c.put.new.block) c.instr_bytes.ensures c.put.ensures),
    )

pub shape_of-block : goal.shape_of-block
shape_of-block c = c.loop-n.invariant.0

pub returns : goal.returns
returns c =
    let a = c.args in
    parts_all slot_bytes 6 six-wide a.code.now a.block.now 92 c.loop-n.block c.loop-n.n (omega (arith, c.well_formed)) c.loop-n.invariant.0 c.loop-n.invariant.1
