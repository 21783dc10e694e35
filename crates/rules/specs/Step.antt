-- Document 01, 'How a step changes the machine' and 'Codes', Step; request 06, the place that a refused step names. Assumes nothing.
use Rattle.std.specs.Prelude.{ℕ, Bool, cond, ◌&&◌, ◌||◌, leb, List, [], ◌∷◌, ◌==◌, nat_le, slice_index_or}
use Rattle.words.specs.Refusals.{◌when◌, first_code_of}
use Rattle.cases.specs.declared.Case.{Case}
use Rattle.runs.specs.Replay.{Replay}
use Rattle.rules.specs.State.{State}
use Rattle.rules.specs.Issue.{here, issue_refusals, issued}
use Rattle.rules.specs.Commit.{commit_refusals, committed}

pub data Step : Type 0 where
  -- processor p issues its next instruction
  issue : ℕ → Step
  -- processor p commits action k; a read takes the value of item e
  commit : ℕ → ℕ → ℕ → Step
  -- four bytes that say neither
  neither : Step

-- 'A step is four bytes: kind (0 issue, 1 commit), processor, action number, source item'; of an issue the last two are zero.
abbrev pub step_of : ℕ → ℕ → ℕ → ℕ → Step
step_of kind p k e = cond (kind == 0 && k == 0 && e == 0) (issue p) (cond (kind == 1) (commit p k e) neither)

-- A schedule's steps.
abbrev pub steps_of : List ℕ → List Step
steps_of [] = []
steps_of (kind ∷ []) = []
steps_of (kind ∷ p ∷ []) = []
steps_of (kind ∷ p ∷ k ∷ []) = []
steps_of (kind ∷ p ∷ k ∷ e ∷ rest) = step_of kind p k e ∷ steps_of rest

-- 'The first that applies is given, and none otherwise.'
unfoldable pub step_code : Case → State → Step → ℕ
step_code c s (issue p) = first_code_of (20 when leb c.procs p ∷ issue_refusals c s p)
step_code c s (commit p k e) = first_code_of (20 when leb c.procs p ∷ commit_refusals c s p k e)
step_code c s neither = 20

-- 'Codes 23 to 25 and 27 to 32': those that name an instruction.
abbrev pub naming : ℕ → Bool
naming code = (nat_le 23 code && nat_le code 25) || (nat_le 27 code && nat_le code 32)

-- The place of the instruction that a step is about: of an issue 'it is the place counter', of a commit what the action remembers.
abbrev pub place_in : Case → State → Step → ℕ
place_in c s (issue p) = here c s p
place_in c s (commit p k e) = (s.actions k).place
place_in c s neither = 255

-- 'That place for codes 23 to 25 and 27 to 32, and 255 for all other answers.'
unfoldable pub step_place : Case → State → Step → ℕ
step_place c s t = cond (naming (step_code c s t)) (place_in c s t) 255

-- The place that the replay r of a schedule returns: that of the step it stopped at; 255 where it took them all.
abbrev pub replay_place : Case → List Step → Replay State → ℕ
replay_place c ts r = step_place c r.state (slice_index_or ts r.taken neither)

-- The state after an accepted step.
unfoldable pub after : Case → State → Step → State
after c s (issue p) = issued c s p
after c s (commit p k e) = committed c s p k e
after c s neither = s
