-- The right readings hold, all together, by computation. Assumes nothing.
use Rattle.std.proofs.Common.{◌≡◌, true, refl}
use Rattle.words.specs.Small.{all, some_below}
use Rattle.words.specs.Refusals.{first_code_of}
use Rattle.cases.specs.Block.{bad3, bad4, bad5, bad6, zero5, bad_byte, assigns_at, is_set, reads_at, bad19, contents}
use Rattle.runs.specs.Replay.{replay}
use Rattle.runs.proofs.Search.{search, cuts}
use Rattle.rules.specs.Kinds.{held_by}
use Rattle.rules.specs.Order.{joined, joined_if}
use Rattle.rules.specs.Issue.{issue_refusals, issued}
use Rattle.rules.specs.Commit.{visible, commit_refusals, committed}
use Rattle.rules.specs.Step.{step_code, after}
use Rattle.rules.specs.Result.{finished, registers}
use Rattle.rules.specs.Claims.{Every, Holds}
use Rattle.rules.specs.Readings.{readings}
use Rattle.rules.proofs.Candidates.{candidates}
use Rattle.rules.proofs.Quick.{quick}
use Rattle.rules.proofs.Rows.{test, every}

computed : all test readings ≡ true
unfolding test quick bad3 bad4 bad5 bad6 zero5 bad_byte assigns_at is_set reads_at bad19 contents some_below first_code_of replay search cuts candidates held_by joined joined_if issue_refusals issued visible commit_refusals committed step_code after finished registers
computed = refl

pub readings_hold : Every Holds readings
readings_hold = every readings computed
