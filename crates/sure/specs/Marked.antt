-- What may be taken alone once the cut mark is set: a cut need not be looked for any more. Assumes nothing.
use Rattle.std.specs.Prelude.{◌≡◌, ◌⊎◌, Bool, true, false, ◌&&◌, ℕ}
use Rattle.cases.specs.declared.Case.{Case}
use Rattle.rules.specs.State.{State}
use Rattle.rules.specs.Step.{Step, issue, commit, neither}
use Rattle.sure.specs.Dead.{Lone}

-- The step is an issue.
abbrev pub is_issue : Step → Bool
is_issue (issue p) = true
is_issue (commit p k e) = false
is_issue neither = false

-- The step, if it is accepted at s, may be taken alone with n steps to go: in any case, or as an issue, since the cut mark is set.
abbrev pub Alone : Case → Bool → ℕ → State → Step → Type 0
Alone c marked n s t = Lone c n s t ⊎ ((marked && is_issue t) ≡ true)
