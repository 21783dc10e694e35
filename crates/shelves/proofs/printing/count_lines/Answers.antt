use mathlib.Core.Path.{◌≡◌, ap}
use Prim.Native.Nat.{ℕ}
use native.Mathlib.Omega.{arith}
use lib.ListN.{get_or}
use Rattle.words.specs.Small.{counting}
use Rattle.lines.proofs.Behind.{laid_none, laid_as}
use Rattle.shelves.specs.Report.{count_lines}
use Rattle.shelves.proofs.Laying.{laid_more}
use Rattle.shelves.proofs.printing.count_lines.Goals as goal

pub loop-i-init : goal.loop-i-init
loop-i-init c = laid_none _ _

pub loop-i-preserved : goal.loop-i-preserved
loop-i-preserved c =
    let a = c.args in
    laid_more a.word.now (λ (k : ℕ). get_or a.counts.now k 0) a.from c.loop-i.i c.loop-i.invariant c.number.ensures c.count_line-end.ensures

pub returns : goal.returns
returns c =
    let a = c.args in
    let all : c.loop-i.i ≡ a.n = omega arith in
    laid_as (ap (λ (m : ℕ). count_lines a.word.now (λ (k : ℕ). get_or a.counts.now k 0) (counting a.from m)) all) c.loop-i.invariant
