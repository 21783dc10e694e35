use Rattle.lines.specs.Outcome.{processor}
use Rattle.lines.proofs.Behind.{laid_then}
use Rattle.lines.proofs.Pieces.{processor_short}
use Rattle.lines.proofs.outcome.processor.Goals as goal

pub returns : goal.returns
unfolding processor
returns c =
    record {
      laid = laid_then c.gap-behind_gap.ensures (laid_then c.put-behind_letter.ensures (laid_then c.decimal-behind_number.ensures c.registers.ensures.laid));
      short = processor_short c.args.outcome.now c.args.p c.requires c.registers.ensures.short;
    }
