use Rattle.texts.specs.Rows.{line_of}
use Rattle.writing.proofs.Writes.{line_laid}
use Rattle.writing.proofs.writer.add.Goals as goal

pub returns : goal.returns
returns c =
    let body = c.row_body-behind_body.ensures in
    line_laid (line_of c.args.row) (record { laid = body.laid; short = body.short }) c.word.ensures
