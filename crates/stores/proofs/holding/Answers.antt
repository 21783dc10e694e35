use Rattle.std.proofs.Common.{rules, ◌+◌, ◌*◌, arith, ◌∙◌, refl}
use Rattle.std.proofs.lemmas.Iterator.{YieldsList-from_range}
use Rattle.std.proofs.lemmas.Iterator.Search.{any_from_yields_List}
use Rattle.words.specs.Sets.{has}
use Rattle.words.proofs.Bools.{below-same}
use Rattle.stores.proofs.Gathered.{any_below}
use Rattle.stores.proofs.holding.Goals as goal

pub returns : goal.returns
returns c =
    let a = c.args in
    any_from_yields_List (λ b. has c.waiting-waits.result (8 * a.p + b)) _ _ _ c.any.ensures.ran (YieldsList-from_range 0 a.locs a.locs refl (omega arith)) (λ x b q k. search rules)
    ∙ any_below (λ b. has c.waiting-waits.result (8 * a.p + b)) a.locs
    ∙ below-same a.locs _ _ (λ b l. c.waiting-waits.ensures.holds a.p b c.requires.proc (omega (arith, c.requires.few_locs)))
