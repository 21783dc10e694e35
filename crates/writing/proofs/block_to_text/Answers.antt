use lib.ListN.{length}
use Rattle.writing.proofs.Writes.{texts_no, texts_yes}
use Rattle.writing.proofs.block_to_text.Goals as goal

pub returns-then-read-ne0 : goal.returns-then-read-ne0
returns-then-read-ne0 c =
    let read = c.read_case-read in
    texts_no c.args.block.now (length c.args.out.now) read.result read.ensures _ c.if-read-ne0.true (c.fill.ensures.after (λ y e. e))

pub returns : goal.returns
returns c =
    let read = c.read_case-read in
    let written = c.write_text in
    texts_yes c.args.block.now (length c.args.out.now) read.result read.ensures _ _ c.if-read-ne0.false written.ensures
