use Rattle.openings.proofs.Fronts.{front_all, front-some}
use native.Mathlib.Omega.{arith}
use Rattle.openings.proofs.front.Goals as goal

pub returns-then-acquire-ge63 : goal.returns-then-acquire-ge63
returns-then-acquire-ge63 c =
    λ t s K. front_all t s c.args.sets.now K c.args.p c.requires

pub returns-else-acquire-ge63 : goal.returns-else-acquire-ge63
returns-else-acquire-ge63 c =
    let u = c.lowest-acquire in
    λ t s K. front-some t s c.args.sets.now K c.args.p c.requires u.result u.ensures (omega (arith, c.if-acquire-ge63.false)) c.below.result c.below.ensures
