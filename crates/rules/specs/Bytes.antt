-- The bytes of a schedule. Assumes nothing.
use Rattle.std.specs.Prelude.{ℕ, List, [], ◌∷◌}
use Rattle.words.specs.Small.{concat_map}
use Rattle.rules.specs.Step.{Step, issue, commit, neither}

-- The four bytes of a step: kind, processor, action number, source item.
abbrev pub step_bytes : Step → List ℕ
step_bytes (issue p) = 0 ∷ p ∷ 0 ∷ 0 ∷ []
step_bytes (commit p k e) = 1 ∷ p ∷ k ∷ e ∷ []
step_bytes neither = 2 ∷ 0 ∷ 0 ∷ 0 ∷ []

-- Those of a schedule.
abbrev pub bytes_of : List Step → List ℕ
bytes_of ts = concat_map step_bytes ts
