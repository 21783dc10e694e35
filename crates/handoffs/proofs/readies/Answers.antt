use Rattle.std.proofs.Common.{rules, tests, ◌∙◌, eqb}
use Rattle.std.proofs.lemmas.Iterator.{YieldsList-from_slice}
use Rattle.std.proofs.lemmas.Iterator.Consumers.{count_from_yields_List, YieldsList-from_filter}
use Rattle.handoffs.proofs.Turns.{counted}
use Rattle.handoffs.proofs.readies.Goals as goal

pub returns : goal.returns
returns c =
    count_from_yields_List c.filter.result _ c.count.ensures.ran (YieldsList-from_filter _ (λ d. eqb d 3) (YieldsList-from_slice c.args.p.deeds cc) c.filter.ensures.closure (λ x r q k. search (rules, tests)))
    ∙ counted (λ d. eqb d 3) c.args.p (search rules)
