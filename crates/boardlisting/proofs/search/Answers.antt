use mathlib.Core.Path.{refl}
use lib.ListN.{length}
use Rattle.boardlisting.proofs.Whole.{ready_start, from_start, whole-listed, whole_unlisted}
use Rattle.boardlisting.proofs.search.Goals as goal

pub explore-found-requires : goal.explore-found-requires
explore-found-requires c =
    ready_start (length c.args.out.now) (c.start.ensures c.args.k).shows (c.start.ensures c.args.k).valid (c.start.ensures c.args.k).logged c.requires.bound c.clear.ensures

pub returns-then-found : goal.returns-then-found
returns-then-found c =
    let a = c.args in
    record {
      listed = whole_unlisted a.k a.case.now a.n (length a.out.now) c.clear.ensures (from_start (c.start.ensures c.args.k).shows c.explore-found.ensures) c.if-found.true c.refuse.ensures.refused;
      position = c.refuse.ensures.position;
    }

pub returns-else-found : goal.returns-else-found
returns-else-found c =
    let a = c.args in
    record {
      listed = whole-listed a.k a.case.now a.n (length a.out.now) c.clear.ensures (from_start (c.start.ensures c.args.k).shows c.explore-found.ensures) c.if-found.false refl refl refl;
      position = refl;
    }
