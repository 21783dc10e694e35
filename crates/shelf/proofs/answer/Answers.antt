-- The text that is laid is the report, and it fits. Assumes nothing.
use mathlib.Core.Path.{ap}
use native.Mathlib.Omega.{arith}
use lib.ListN.{length}
use Rattle.lines.proofs.Behind.{laid_as, laid-length, laid_printed}
use Rattle.shelves.specs.Report.{text_of}
use Rattle.shelves.proofs.Reported.{report_read}
use Rattle.shelves.proofs.Lengths.{report_short}
use Rattle.shelf.proofs.answer.Goals as goal

pub returns : goal.returns
returns c =
    let laid = c.report.ensures in
    record {
      within = omega (arith, laid.ends, ap length laid.bytes, laid-length c.args.text.now 0 (text_of c.args.read));
      printed = λ file known. laid_printed (laid_as (report_read file c.args.read known) laid) (omega (arith, c.requires, report_short file));
    }
