use Rattle.std.proofs.Common.{arith, subst, ◌≡◌, ◌∙◌, ap, length, take, slice_index_or}
use Rattle.clauses.specs.declared.Asked.{Asked}
use Rattle.clauses.specs.Wanted.{no_clause, no_clauses, with_clause, with_all, gathered, clauses_of}
use Rattle.clauses.proofs.Gathers.{none_yet, one_more, all_of, count_at}
use Rattle.womm.specs.Asking.{AskedAs}
use Rattle.womm.proofs.Asking.{asked_as_of}
use Rattle.womm.proofs.womm_ask.Goals as goal

pub loop-clause-init : goal.loop-clause-init
loop-clause-init c = c.no_clauses-asked.ensures ∙ none_yet c.args.clauses.now

pub with_clause-asked-requires : goal.with_clause-asked-requires
with_clause-asked-requires c =
    let i = c.loop-clause.clause-index in
    let few = count_at c.args.clauses.now i in
    let same : c.loop-clause.asked.count ≡ (with_all no_clauses (take i c.args.clauses.now)).count = ap (λ (a : Asked). a.count) c.loop-clause.invariant in
    omega (arith, few, same)

pub loop-clause-preserved : goal.loop-clause-preserved
loop-clause-preserved c =
    let cs = c.args.clauses.now in
    let i = c.loop-clause.clause-index in
    c.with_clause-asked.ensures ∙ ap (λ (b : Asked). with_clause b (slice_index_or cs i no_clause)) c.loop-clause.invariant ∙ one_more cs i (omega arith)

pub returns : goal.returns
returns c =
    let cs = c.args.clauses.now in
    let over : c.loop-clause.clause-index ≡ length cs = omega arith in
    let all : c.loop-clause.asked ≡ gathered cs = c.loop-clause.invariant ∙ ap (λ (k : _). with_all no_clauses (take k cs)) over ∙ all_of cs in
    asked_as_of cs c.args.block.now c.args.bound (length c.args.schedule.now) c.ask_held.result c.ask_held.new.schedule
    (subst (λ (b : Asked). AskedAs c.args.block.now c.args.bound (clauses_of b) (length c.args.schedule.now) c.ask_held.result c.ask_held.new.schedule) all c.ask_held.ensures)
