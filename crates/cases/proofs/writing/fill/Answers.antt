use mathlib.Core.Path.{◌≡◌, ◌∙◌}
use native.Mathlib.Omega.{arith}
use lib.ListN.{length}
use borrow.Author.Rules.{rules}
use Rattle.cases.proofs.Puts.{filled}
use Rattle.cases.proofs.writing.fill.Goals as goal

-- The head, the words, the slots and the zeros put one behind the other are the contents of the case (`filled`).
pub returns : goal.returns
returns c =
    let case = c.args.case.now in
    let counts : length case.counts ≡ 4 = search rules in
    let masks : length case.masks ≡ 4 = search rules in
    let presets : length case.presets ≡ 32 = search rules in
    let memory : length case.memory ≡ 8 = search rules in
    let code : length case.code ≡ 48 = search rules in
    let long : length c.put_code.new.block ≡ 512 = omega (arith, c.put_head.ensures.long, c.put_words.ensures.long, c.put_words-2.ensures.long, c.put_code.ensures.long, c.requires) in record {
      holds = filled case counts masks presets memory code c.args.block.now c.put_head.new.block c.put_words.new.block c.put_words-2.new.block c.put_code.new.block c.clear.new.block long c.put_head.ensures c.put_words.ensures c.put_words-2.ensures c.put_code.ensures c.clear.ensures;
      long = c.clear.auto.block ∙ long;
    }
