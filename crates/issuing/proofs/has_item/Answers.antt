use mathlib.Core.Path.{◌∙◌, sym}
use Rattle.issuing.proofs.has_item.Goals as goal

pub returns-then-syncs : goal.returns-then-syncs
returns-then-syncs c = λ k. rw (sym c.syncs.ensures ∙ c.if-syncs.true) c.if-syncs.true

pub returns-else-syncs : goal.returns-else-syncs
returns-else-syncs c = λ k. rw (sym c.syncs.ensures ∙ c.if-syncs.false) c.accesses.ensures
