use mathlib.Core.Path.{◌≡◌}
use Rattle.cases.specs.declared.Case.{Case}
use Rattle.rules.specs.State.{State}
use Rattle.orders.proofs.Walks.{Sifted}
use Rattle.machine.specs.Shown.{Acts}
use Rattle.needless.specs.Echoes.{is_novel}
use Rattle.needless.proofs.novel_items.Given as goal

abbrev pub invariant-loop-rest : goal.invariant-loop-rest
invariant-loop-rest l = (c : Case) (s : State) → c.memory ≡ l.case.memory → Acts c l.m.issued l.m.acts s → Sifted l.initial.rest (is_novel c s l.word l.done) l.rest l.items

abbrev pub decreases-loop-rest : goal.decreases-loop-rest
decreases-loop-rest l = l.rest
