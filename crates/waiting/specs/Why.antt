-- Request 11: why each processor waits after a schedule, over the bytes that are handed over. Assumes nothing.
use Rattle.std.specs.Prelude.{List, ℕ}
use Rattle.progress.specs.Causes.{reasons}
use Rattle.replaying.specs.declared.Replayed.{Replayed}
use Rattle.replaying.specs.Answer.{Question, IsAnswer}

-- A byte for each of the four processors: the reason of the state that the schedule leads to.
abbrev pub waits : Question
waits = record { size = 4; bytes = reasons }

-- The answer r, and the bytes out of the buffer, are those.
abbrev pub IsWhy : List ℕ → List ℕ → ℕ → Replayed → List ℕ → Type 0
IsWhy = IsAnswer waits
