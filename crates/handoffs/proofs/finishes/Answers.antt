use mathlib.Core.Path.{refl}
use Rattle.handoffs.proofs.Parts.{none_askable, any_asked}
use Rattle.handoffs.proofs.finishes.Goals as goal

pub settle-requires : goal.settle-requires
settle-requires c = record { fit = c.requires.fit; few = c.requires.bound; asks = none_askable c.no_clauses.ensures; long = refl }

pub returns : goal.returns
returns c =
    let a = c.args in
    any_asked a.case.now a.n c.no_clauses.result c.no_clauses.ensures c.settle.ensures.0
