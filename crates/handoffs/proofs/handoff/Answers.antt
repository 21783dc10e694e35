use lib.ListN.{length}
use mathlib.Core.Path.{sym, ◌∙◌}
use Rattle.handoffs.proofs.Parts.{refused_15, refused_13, judged_by}
use Rattle.handoffs.proofs.handoff.Goals as goal

pub returns-then-not-legal : goal.returns-then-not-legal
returns-then-not-legal c =
    let a = c.args in
    refused_15 a.sending.now a.receiving.now (length a.out.now) c.legal.ensures c.if-not-legal.true c.refuse.ensures

pub returns-then-out-ne384 : goal.returns-then-out-ne384
returns-then-out-ne384 c =
    let a = c.args in
    refused_13 a.sending.now a.receiving.now (length a.out.now) c.legal.ensures c.if-not-legal.false c.if-out-ne384.true c.refuse-then-out-ne384.ensures

pub judge-requires : goal.judge-requires
judge-requires c =
    record { lawful = sym c.legal.ensures ∙ c.if-not-legal.false; long = c.if-out-ne384.false }

pub returns-else-out-ne384 : goal.returns-else-out-ne384
returns-else-out-ne384 c =
    let a = c.args in
    judged_by a.sending.now a.receiving.now (length a.out.now) c.legal.ensures c.if-not-legal.false c.if-out-ne384.false c.judge.ensures
