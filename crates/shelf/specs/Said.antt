-- What is printed of a file that was read. Assumes nothing.
use Rattle.std.specs.Prelude.{List, ℕ, ◌≤◌, length}
use Rattle.lines.specs.Laid.{Printed}
use Rattle.shelves.specs.declared.Reading.{Reading}
use Rattle.shelves.specs.Readings.{After}
use Rattle.shelves.specs.Report.{report_of}

-- Whatever file it was, its report stands at the start of the bytes.
pub record Answered (r : Reading) (before after : List ℕ) (end : ℕ) : Type 0 where
  pub within : end ≤ length after
  pub printed : (file : List ℕ) → After file r → Printed (report_of file) before after end
