use mathlib.Core.Path.{refl, ap, ◌∙◌, subst}
use mathlib.Core.List.{List}
use Prim.Native.Nat.{ℕ, ◌+◌, ◌*◌}
use native.Mathlib.Omega.{arith}
use lib.ListN.{length, get_or}
use Rattle.cases.specs.Instruction.{two}
use Rattle.cases.specs.Putting.{Put}
use Rattle.cases.proofs.Puts.{two_bytes, two-wide, parts_none, parts_more, parts_all}
use borrow.Author.Rules.{rules}
use Rattle.cases.proofs.writing.put_words.Goals as goal

pub loop-i-init : goal.loop-i-init
loop-i-init c = (refl, parts_none two 2 two-wide c.args.words.now c.args.block.now c.args.at)

pub put-requires : goal.put-requires
put-requires c =
    omega (arith, ap length (c.to_le_bytes.ensures ∙ two_bytes (get_or c.args.words.now c.loop-i.i 0) (search rules)), c.loop-i.invariant.0, c.requires.room)

pub loop-i-preserved : goal.loop-i-preserved
loop-i-preserved c =
    let a = c.args in (
      c.put.ensures.long ∙ c.loop-i.invariant.0,
      parts_more two 2 two-wide a.words.now a.block.now a.at c.loop-i.block c.put.new.block c.loop-i.i 0 (omega arith) c.loop-i.invariant.1 (subst (λ (l : List ℕ). Put c.loop-i.block (a.at + 2 * c.loop-i.i) l c.put.new.block) (c.to_le_bytes.ensures ∙ two_bytes (get_or c.args.words.now c.loop-i.i 0) (search rules)) c.put.ensures),
    )

pub shape_of-block : goal.shape_of-block
shape_of-block c = c.loop-i.invariant.0

pub returns : goal.returns
returns c =
    let a = c.args in
    parts_all two 2 two-wide a.words.now a.block.now a.at c.loop-i.block c.loop-i.i (omega arith) c.loop-i.invariant.0 c.loop-i.invariant.1
