use mathlib.Core.Path.{◌≡◌, ap, ◌∙◌}
use mathlib.Core.List.{List}
use Prim.Native.Nat.{ℕ}
use native.Mathlib.Omega.{arith}
use Rattle.words.specs.Small.{each}
use Rattle.shelves.specs.Counts.{op_at}
use Rattle.shelves.specs.Tallies.{raised, raised_all}
use Rattle.shelves.proofs.Adding.{none-raised, op_raised, all_raised}
use Rattle.shelves.proofs.counts.raise_ops.Goals as goal

pub loop-n-init : goal.loop-n-init
loop-n-init c = none-raised c.args.ops.now

pub loop-n-preserved : goal.loop-n-preserved
loop-n-preserved c =
    let a = c.args in
    let n = c.loop-n.n in
    c.raise.ensures
    ∙ ap (raised c.loop-n.ops) c.op_at.ensures
    ∙ ap (λ (l : List ℕ). raised l (op_at a.block.now n)) c.loop-n.invariant
    ∙ op_raised a.ops.now a.block.now n

pub returns : goal.returns
returns c =
    let a = c.args in
    let over : c.loop-n.n ≡ 48 = omega arith in
    c.loop-n.invariant ∙ ap (λ (n : ℕ). raised_all a.ops.now (each n (op_at a.block.now))) over ∙ all_raised a.ops.now a.block.now
