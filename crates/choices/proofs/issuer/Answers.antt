use mathlib.Core.Path.{◌∙◌, sym}
use Rattle.choices.proofs.issuer.Goals as goal

pub may_issue-requires : goal.may_issue-requires
may_issue-requires c = (c.requires, c.loop-p-test.true)

pub returns-then-may_issue-clause-opened : goal.returns-then-may_issue-clause-opened
returns-then-may_issue-clause-opened c = λ t s L h p n. sym (c.may_issue.ensures t s L h p n) ∙ c.if-may_issue.true
