-- What the export for the boot hand-off hands back, as one statement. Assumes nothing.
use Rattle.std.specs.Prelude.{List, ℕ, length}
use Rattle.handoffs.specs.Verdict.{IsHandoff}

-- A sending and a receiving plan are judged, with a schedule buffer that held these bytes: the code r, the verdict v, the schedule's length n,
-- the buffer's bytes out.
pub record HandedAs (sending receiving before : List ℕ) (r v n : ℕ) (out : List ℕ) : Type 0 where
  pub handoff : IsHandoff sending receiving (length before) (record { code = r; verdict = v; length = n }) out
