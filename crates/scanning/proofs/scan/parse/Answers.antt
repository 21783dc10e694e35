use native.Mathlib.Omega.{arith}
use mathlib.Core.Path.{sym, ◌∙◌}
use mathlib.Core.Option.{none, some}
use Rattle.words.proofs.Bools.{cond-true, cond-false}
use Rattle.lines.proofs.Behind.{laid_printed, printed_text}
use Rattle.texts.specs.Rows.{line_of}
use Rattle.scanning.proofs.Parsing.{parsed_is}
use Rattle.scanning.proofs.scan.parse.Goals as goal

pub returns-then-eq : goal.returns-then-eq
returns-then-eq c =
    let line = line_of c.guess_row-row.result in
    sym (cond-true c.eq.result (some line) none c.if-eq.true) ∙ parsed_is c.args.p.now _ line c.eq.result c.eq.ensures (printed_text (laid_printed c.row_body-n.ensures.laid (omega (arith, c.row_body-n.ensures.short)))) c.guess_row-row.ensures

pub returns-else-eq : goal.returns-else-eq
returns-else-eq c =
    let line = line_of c.guess_row-row.result in
    sym (cond-false c.eq.result (some line) none c.if-eq.false) ∙ parsed_is c.args.p.now _ line c.eq.result c.eq.ensures (printed_text (laid_printed c.row_body-n.ensures.laid (omega (arith, c.row_body-n.ensures.short)))) c.guess_row-row.ensures
