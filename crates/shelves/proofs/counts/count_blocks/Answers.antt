use Rattle.std.proofs.Common.{◌≡◌, ◌∙◌, ap, arith, length, ◌/◌, ℕ}
use Rattle.words.specs.Small.{each}
use Rattle.shelves.specs.declared.Tally.{Tally}
use Rattle.shelves.specs.Blocks.{block_at}
use Rattle.shelves.specs.Tallies.{counted, counted_all}
use Rattle.shelves.proofs.Adding.{none_yet, one_more, all_counted}
use Rattle.shelves.proofs.counts.count_blocks.Goals as goal

pub loop-i-init : goal.loop-i-init
loop-i-init c = none_yet c.args.t.now c.args.file.now

pub loop-i-preserved : goal.loop-i-preserved
loop-i-preserved c =
    let a = c.args in
    let i = c.loop-i.i in
    c.count_block.ensures ∙ ap (λ (t : Tally). counted t (block_at a.file.now i)) c.loop-i.invariant ∙ one_more a.t.now a.file.now i

pub returns : goal.returns
returns c =
    let a = c.args in
    let over : c.loop-i.i ≡ length a.file.now / 512 = omega arith in
    c.loop-i.invariant ∙ ap (λ (n : ℕ). counted_all a.t.now (each n (block_at a.file.now))) over ∙ all_counted a.t.now a.file.now
