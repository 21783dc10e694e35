use mathlib.Core.List.{[], ◌∷◌}
use lib.ListN.{length}
use Rattle.handoffs.proofs.plan_of.Goals as goal

pub returns : goal.returns
returns c = λ i. record { count = length c.args.plan.now; deeds = c.deed.ensures i ∷ c.deed-2.ensures i ∷ c.deed-3.ensures i ∷ c.deed-4.ensures i ∷ [] }
