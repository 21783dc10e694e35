use Rattle.asking.proofs.Settled.{all_clear}
use Rattle.handoffs.proofs.Parts.{few_third, few_fourth, few_ready, low_all}
use borrow.Author.Rules.{rules}
use Rattle.handoffs.proofs.stalest.Goals as goal

pub consider_two-requires : goal.consider_two-requires
consider_two-requires c =
    let F = c.requires.few in
    let r = c.args.r in
    record {
      fit = c.requires.fit;
      bound = c.requires.bound;
      ready_low = few_ready r F c.ready_at-ready.ensures;
      low = few_third r F c.fresh-two.ensures c.fresh-three.ensures;
      other_low = few_fourth r F c.fresh-two.ensures c.fresh-three.ensures c.fresh-four.ensures;
      level = c.requires.level;
      long = search rules;
    }

pub returns : goal.returns
returns c =
    let a = c.args in
    low_all a.case.now a.n a.s a.r (all_clear a.out.now c.clear.ensures c.requires.long) c.ready_at-ready.ensures c.fresh-two.ensures c.fresh-three.ensures c.fresh-four.ensures c.consider_two-a.ensures c.consider_two.ensures
