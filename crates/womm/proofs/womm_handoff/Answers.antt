use Rattle.womm.proofs.womm_handoff.Goals as goal

pub returns : goal.returns
returns c = record { handoff = c.handoff-answer.ensures }
