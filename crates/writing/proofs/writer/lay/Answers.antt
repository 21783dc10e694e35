use Rattle.writing.proofs.Writes.{text_laid}
use Rattle.writing.proofs.writer.lay.Goals as goal

pub returns : goal.returns
returns c =
    let done = text_laid c.args.case c.add-behind_head.ensures c.add_words-behind_words.ensures c.add_presets-behind_presets.ensures c.add_programs.ensures in
    record { laid = done.laid; short = done.short }
