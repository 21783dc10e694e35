use Prim.Native.Nat.{ℕ, ◌+◌, ◌*◌}
use native.Mathlib.Omega.{arith}
use lib.ListN.{length-set}
use Rattle.words.proofs.Lists.{filled_more, each_is}
use Rattle.cases.specs.Block.{word}
use Rattle.cases.proofs.reading.read_words.Goals as goal

pub loop-n-preserved : goal.loop-n-preserved
loop-n-preserved g c =
    let a = c.args in
    let words = c.loop-n.words in (
      simp length-set c.loop-n.invariant.0,
      filled_more (λ (k : ℕ). word a.block.now (a.at + 2 * k)) 0 words c.loop-n.n c.word.result (omega arith) c.word.ensures c.loop-n.invariant.1,
    )

pub returns : goal.returns
returns g c =
    let a = c.args in
    each_is (λ (k : ℕ). word a.block.now (a.at + 2 * k)) 0 c.loop-n.words _ c.loop-n.invariant.0 (λ k h. c.loop-n.invariant.1 k (omega arith))
