use Rattle.reading.proofs.Answering.{fills_no, fills_sound, line_needs, fills_unset}
use Rattle.reading.proofs.fill.Goals as goal

pub returns-then-heard-ne0 : goal.returns-then-heard-ne0
returns-then-heard-ne0 c =
    let heard = c.hear-heard in
    fills_no _ _ heard.result _ heard.ensures c.if-heard-ne0.true (c.fill.ensures.after (λ y e. e))

pub line_at-requires : goal.line_at-requires
line_at-requires c =
    let heard = c.hear-heard in
    let fault = c.write_case-fault in
    line_needs _ heard.result heard.ensures c.if-heard-ne0.false _ c.requires fault.result fault.ensures.0 c.if-fault-ne0.true

pub returns-then-fault-ne0 : goal.returns-then-fault-ne0
returns-then-fault-ne0 c =
    let heard = c.hear-heard in
    let fault = c.write_case-fault in
    fills_unset _ heard.result heard.ensures c.if-heard-ne0.false _ c.requires fault.result fault.ensures.0 c.if-fault-ne0.true _ _ c.line_at.ensures c.nothing.ensures _ fault.ensures.1

pub returns : goal.returns
returns c =
    let heard = c.hear-heard in
    let fault = c.write_case-fault in
    fills_sound _ heard.result heard.ensures c.if-heard-ne0.false _ c.requires fault.result fault.ensures.0 c.if-fault-ne0.false _ fault.ensures.1
