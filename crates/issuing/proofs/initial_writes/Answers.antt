use mathlib.Core.Path.{◌∙◌, sym, subst}
use Rattle.rules.specs.State.{stands_at}
use Rattle.orders.specs.Rows.{SetOf}
use Rattle.machine.specs.Shown.{shown_entry}
use Rattle.issuing.proofs.Ordering.{sync_writes, access_writes, other_writes}
use Rattle.issuing.proofs.initial_writes.Goals as goal

pub returns-then-syncs : goal.returns-then-syncs
returns-then-syncs c = λ k. sync_writes (shown_entry k c.args.e) (sym c.syncs.ensures ∙ c.if-syncs.true)

pub returns-then-accesses : goal.returns-then-accesses
returns-then-accesses c =
    let e = c.args.e in
    λ k. subst (SetOf 8 (λ l. stands_at l (shown_entry k e))) (sym c.one.ensures) (access_writes (shown_entry k e) (sym c.syncs.ensures ∙ c.if-syncs.false) (sym c.accesses.ensures ∙ c.if-accesses.true) c.requires)

pub returns-else-accesses : goal.returns-else-accesses
returns-else-accesses c = λ k. other_writes (shown_entry k c.args.e) (sym c.syncs.ensures ∙ c.if-syncs.false) (sym c.accesses.ensures ∙ c.if-accesses.false)
