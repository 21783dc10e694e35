-- Both samples hold, by computation. Assumes nothing.
use mathlib.Core.Path.{refl}
use Rattle.words.specs.Small.{some_below}
use Rattle.words.specs.Refusals.{first_code_of}
use Rattle.cases.specs.Block.{bad3, bad4, bad5, bad6, zero5, bad_byte, assigns_at, is_set, reads_at, bad19, contents, lowest}
use Rattle.runs.specs.Replay.{replay}
use Rattle.rules.specs.Kinds.{held_by}
use Rattle.rules.specs.Order.{joined, joined_if}
use Rattle.rules.specs.Issue.{issue_refusals, issued}
use Rattle.rules.specs.Commit.{visible, commit_refusals, committed}
use Rattle.rules.specs.Step.{step_code, after}
use Rattle.rules.proofs.Quick.{quick, quick_sound}
use Rattle.progress.specs.Causes.{causes, reasons}
use Rattle.progress.specs.Samples.{locks, others, Samples}

pub samples : Samples
unfolding quick bad3 bad4 bad5 bad6 zero5 bad_byte assigns_at is_set reads_at bad19 contents some_below first_code_of lowest replay held_by joined joined_if issue_refusals issued visible commit_refusals committed step_code after causes reasons
samples = (record { sound = quick_sound locks refl; accepted = refl; why = refl }, record { sound = quick_sound others refl; accepted = refl; why = refl })
