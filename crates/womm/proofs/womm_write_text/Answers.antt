use Rattle.womm.proofs.womm_write_text.Goals as goal

pub returns : goal.returns
returns c = record { texts = c.block_to_text-written.ensures }
