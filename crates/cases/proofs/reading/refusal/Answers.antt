use mathlib.Core.Path.{sym, ap, ◌∙◌}
use Rattle.cases.specs.Block.{fault_of}
use Rattle.cases.proofs.Decoding.{not_512, not_check, past_check}
use Rattle.cases.proofs.reading.refusal.Goals as goal

pub returns-then-block-ne512 : goal.returns-then-block-ne512
returns-then-block-ne512 c = not_512 c.args.block.now c.if-block-ne512.true

pub returns-then-word-check : goal.returns-then-word-check
returns-then-word-check c =
    not_check c.args.block.now c.if-block-ne512.false (λ h. c.if-word-check.true (c.word.ensures ∙ h ∙ sym c.check.ensures.is))

pub returns-else-word-check : goal.returns-else-word-check
returns-else-word-check c =
    let s = c.args.block.now in
    c.judge.ensures ∙ ap (fault_of s) (past_check s c.if-block-ne512.false (sym c.word.ensures ∙ c.if-word-check.false ∙ c.check.ensures.is))
