use native.Mathlib.Omega.{arith}
use Rattle.texts.proofs.Numbered.{word_laid, numbers_next, numbers_all}
use Rattle.texts.proofs.rows.numbered.Goals as goal

pub loop-n-init : goal.loop-n-init
loop-n-init c = word_laid c.args.word.now (omega arith) c.word-end.ensures

pub loop-n-preserved : goal.loop-n-preserved
loop-n-preserved c =
    let i = c.loop-n.n-index in
    numbers_next c.args.word.now c.args.numbers.now i (omega arith) c.loop-n.invariant c.spaced-end.ensures

pub returns : goal.returns
returns c = numbers_all c.args.word.now c.args.numbers.now c.loop-n.n-index (omega arith) c.loop-n.invariant
