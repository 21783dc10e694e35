use Rattle.choices.proofs.Found.{quiet_low, quiet_or}
use Rattle.choices.proofs.Answers.{quiet_none}
use native.Mathlib.Omega.{arith}
use mathlib.Core.Path.{◌∙◌, sym}
use Rattle.choices.proofs.quiet_read.Goals as goal

pub ended-requires : goal.ended-requires
ended-requires c = c.requires.few

pub returns-then-not-ended : goal.returns-then-not-ended
returns-then-not-ended c = (omega arith, λ t s E D. quiet_none t s)

pub returns : goal.returns
returns c =
    let f = c.first_settled in
    (rw c.unwrap_or.ensures (quiet_low f.result f.ensures.low), λ t s E D. rw c.unwrap_or.ensures (quiet_or t s f.result (sym (c.ended.ensures t s E) ∙ c.if-not-ended.false) (f.ensures.found t s D)))
