use Rattle.cases.proofs.Decoding.{case_is}
use Rattle.cases.proofs.reading.case_of.Goals as goal

pub returns : goal.returns
returns c =
    let s = c.args.block.now in
    case_is s c.byte.result c.byte-2.result c.read_four.result c.read_four-2.result _ _ c.read_code.result c.byte.ensures.is c.byte-2.ensures.is c.read_four.ensures c.read_four-2.ensures c.read_words.ensures c.read_words-2.ensures c.read_code.ensures
