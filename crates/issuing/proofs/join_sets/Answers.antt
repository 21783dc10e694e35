use mathlib.Core.Path.{refl}
use Rattle.issuing.proofs.Keeping.{keeps_entry}
use Rattle.issuing.proofs.join_sets.Goals as goal

pub returns : goal.returns
returns c =
    let a = c.args in
    let h = c.requires in
    keeps_entry a.sets.now a.k c.kind_of-kind.result a.e.proc a.e.loc a.e c.with-writes.result c.with-kinds.result c.with-queue.result c.with-given.result
    c.kind_of-kind.ensures.0 refl refl c.kind_of-kind.ensures.1 h.proc h.loc
    c.with-writes.ensures c.with-kinds.ensures c.with-queue.ensures c.with-given.ensures
