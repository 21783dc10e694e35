use Rattle.reading.proofs.Answering.{blocks_full, blocks_no, blocks_small}
use Rattle.reading.proofs.text_to_block.Goals as goal

pub returns-then-block-eq512 : goal.returns-then-block-eq512
returns-then-block-eq512 c = blocks_full _ _ c.fill-code.result _ c.if-block-eq512.true c.fill-code.ensures

pub returns-then-code-ne0 : goal.returns-then-code-ne0
returns-then-code-ne0 c = blocks_no _ _ c.read_text-code.result _ c.read_text-code.ensures (c.fill.ensures.after (λ y e. e)) c.if-code-ne0.true

pub returns-else-code-ne0 : goal.returns-else-code-ne0
returns-else-code-ne0 c = blocks_small _ _ c.read_text-code.result _ c.read_text-code.ensures (c.fill.ensures.after (λ y e. e)) c.if-block-eq512.false c.if-code-ne0.false
