-- The line that a row says, if there is one. Assumes nothing.
use Rattle.std.specs.Prelude.{Option, Some, None}
use Rattle.std.proofs.Math.Option as maybe
use Rattle.texts.specs.declared.Row.{Row}
use Rattle.texts.specs.Lines.{Line}
use Rattle.texts.specs.Rows.{line_of}

abbrev pub line_in : Option Row → maybe.Option Line
line_in None = maybe.none
line_in (Some row) = maybe.some (line_of row)
