use mathlib.Core.Path.{refl}
use lib.ListN.{length}
use Rattle.searching.proofs.Starts.{ready_empty, explored_empty}
use Rattle.listing.proofs.Whole.{ready_list, from_start, whole-listed, whole_unlisted}
use Rattle.listing.proofs.search.Goals as goal

pub program-program-requires : goal.program-program-requires
program-program-requires c = c.requires.fit

pub start-m-requires : goal.start-m-requires
start-m-requires c = c.requires.fit

pub forward-requires : goal.forward-requires
forward-requires c = c.requires.fit

pub explore-found-requires : goal.explore-found-requires
explore-found-requires c =
    ready_empty c.default.result c.default.ensures (ready_list (length c.args.out.now) c.no_clauses.ensures c.program-program.ensures c.start-m.ensures.0 c.start-m.ensures.1 c.forward.ensures c.requires.bound c.clear.ensures)

pub returns-then-found : goal.returns-then-found
returns-then-found c =
    let a = c.args in
    record {
      listed = whole_unlisted a.case.now a.n (length a.out.now) c.clear.ensures (from_start c.no_clauses.ensures c.start-m.ensures.0 (explored_empty c.default.result c.default.ensures c.explore-found.ensures)) c.if-found.true c.refuse.ensures.refused;
      position = c.refuse.ensures.position;
    }

pub returns : goal.returns
returns c =
    let a = c.args in
    record {
      listed = whole-listed a.case.now a.n (length a.out.now) c.clear.ensures (from_start c.no_clauses.ensures c.start-m.ensures.0 (explored_empty c.default.result c.default.ensures c.explore-found.ensures)) c.if-found.false refl refl refl;
      position = refl;
    }
