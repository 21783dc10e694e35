-- A sequential run as a schedule of the WOMM: each instruction is issued and committed at once, and a read takes the newest write. Assumes nothing.
use Rattle.std.specs.Prelude.{cond, List, [], ◌∷◌, ℕ, zero, suc, ◌+◌}
use Rattle.words.specs.Small.{or_zero}
use Rattle.cases.specs.declared.Case.{Case}
use Rattle.runs.specs.Outcome.{Leads}
use Rattle.rules.specs.Kinds.{kind, reading}
use Rattle.rules.specs.State.{State, initial}
use Rattle.rules.specs.Issue.{next, address, issued}
use Rattle.rules.specs.Commit.{writes, committed}
use Rattle.rules.specs.Step.{Step, issue, commit}
use Rattle.rules.specs.Womm.{womm}
use Rattle.races.specs.Race.{FirstRace}

-- The newest write item of location l among the first n actions and the initial write.
abbrev pub newest : State → ℕ → ℕ → ℕ
newest s l zero = l
newest s l (suc n) = cond (writes s l (8 + n)) (8 + n) (newest s l n)

module _ (c : Case) where
  -- What the next instruction of processor p takes, if it is a read.
  abbrev pub source : State → ℕ → ℕ
  source s p = cond (reading (kind (next c s p))) (newest s (or_zero (address c s p)) s.count) 0

  -- The state after it.
  abbrev pub ran : State → ℕ → State
  ran s p = committed c (issued c s p) p s.count (source s p)

  -- The next instructions of these processors, one after the other, from s.
  abbrev pub in_order : State → List ℕ → List Step
  in_order s [] = []
  in_order s (p ∷ ps) = issue p ∷ commit p s.count (source s p) ∷ in_order (ran s p) ps

  -- No sequential run has a race.
  abbrev pub NeverRacesInOrder : Type 0
  NeverRacesInOrder = (ps : List ℕ) (s : State) → Leads (womm c) (initial c) (in_order (initial c) ps) s → FirstRace (in_order (initial c) ps) s 255 255
