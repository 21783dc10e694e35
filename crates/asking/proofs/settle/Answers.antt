use mathlib.Core.Path.{refl}
use Rattle.asking.proofs.Settled.{standing_start, all_clear, start_held, settled_yes, settled_no}
use Rattle.asking.proofs.settle.Goals as goal

pub within_reach-reach-requires : goal.within_reach-reach-requires
within_reach-reach-requires c =
    standing_start c.program.ensures c.start.ensures c.forward.ensures c.requires.few c.requires.asks

pub lowest-requires : goal.lowest-requires
lowest-requires c =
    record {
      fit = c.requires.fit;
      coded = c.program.ensures;
      forwards = c.forward.ensures;
      few = c.requires.few;
      asks = c.requires.asks;
      held = start_held c.start.ensures.0 c.within_reach-reach.ensures c.if-reach.true;
      clear = all_clear c.args.out.now c.clear.ensures c.requires.long;
    }

pub returns-then-reach : goal.returns-then-reach
returns-then-reach c =
    (settled_yes c.start.ensures.0 c.within_reach-reach.ensures c.if-reach.true c.lowest.ensures, refl)

pub returns : goal.returns
returns c =
    (settled_no c.start.ensures.0 c.within_reach-reach.ensures c.if-reach.false (all_clear c.args.out.now c.clear.ensures c.requires.long), refl)
