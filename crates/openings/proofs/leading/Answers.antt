use Rattle.openings.proofs.Fronts.{fronts_lead}
use Rattle.openings.proofs.leading.Goals as goal

pub returns : goal.returns
returns c =
    let d = c.front-3 in
    let a = c.front-2 in
    let b = c.front in
    λ t s K. fronts_lead s a.result b.result c.front-4.result d.result (a.ensures t s K) (b.ensures t s K) (c.front-4.ensures t s K) (d.ensures t s K)
