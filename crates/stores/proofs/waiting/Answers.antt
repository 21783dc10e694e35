use Rattle.stores.proofs.Gathered.{waits_next, waits-none}
use Rattle.stores.proofs.waiting.Goals as goal

pub loop-x-init : goal.loop-x-init
loop-x-init c = waits-none c.args.k c.args.log.now

pub loop-x-preserved : goal.loop-x-preserved
loop-x-preserved c =
    waits_next c.args.k c.args.log.now c.loop-x.x-index c.loop-x.found c.home-found.result c.loop-x.invariant c.home-found.ensures
