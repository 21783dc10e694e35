use Rattle.handoffs.proofs.Parts.{asked_by, none_small, one_small}
use Rattle.handoffs.proofs.asked_for.Goals as goal

pub with_clause-one-requires : goal.with_clause-one-requires
with_clause-one-requires c = none_small c.no_clauses.ensures

pub with_clause-requires : goal.with_clause-requires
with_clause-requires c = one_small c.clause.result c.no_clauses.ensures c.with_clause-one.ensures

pub returns : goal.returns
returns c =
    let a = c.args in
    asked_by a.ready a.other c.no_clauses.ensures c.clause.ensures c.with_clause-one.ensures c.clause-2.ensures c.with_clause.ensures
