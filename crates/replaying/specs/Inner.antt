-- A schedule taken on the machine, the bytes after the registers, and what the functions are given. Assumes nothing.
use Rattle.std.specs.Prelude.{◌≡◌, List, ◌++◌, ℕ, ◌%◌, length}
use Rattle.words.specs.Refusals.{first_code_of}
use Rattle.cases.specs.declared.Case.{Case}
use Rattle.cases.specs.Block.{case_of, read_of}
use Rattle.runs.specs.Replay.{replay}
use Rattle.rules.specs.State.{State, initial, waiting}
use Rattle.rules.specs.Step.{Step, steps_of, replay_place}
use Rattle.rules.specs.Result.{how_many, place_byte, present}
use Rattle.rules.specs.Womm.{womm}
use Rattle.machine.specs.Shown.{shown}
use Rattle.machine.specs.declared.Machine.{Machine}
use Rattle.machine.specs.Fit.{Fit}
use Rattle.machine.specs.Valid.{Valid}
use Rattle.replaying.specs.declared.Replayed.{Replayed}
use Rattle.replaying.specs.declared.Walked.{Walked}
use Rattle.replaying.specs.declared.Taken.{Taken}
use Rattle.replaying.specs.Answer.{replay_refusals}

-- The first refused step's code, the steps before it, its place, and a machine that shows the state then.
pub record IsWalk (c : Case) (ts : List Step) (w : Walked) : Type 0 where
  pub code : w.code ≡ (replay (womm c) (initial c) ts).code
  pub steps : w.steps ≡ (replay (womm c) (initial c) ts).taken
  pub place : w.place ≡ replay_place c ts (replay (womm c) (initial c) ts)
  pub shows : shown c w.machine ≡ (replay (womm c) (initial c) ts).state
  pub valid : Valid c w.machine

-- The schedule is taken on the case that the block holds, where nothing is refused for an answer of the size wanted.
pub record IsTaken (block schedule : List ℕ) (size wanted : ℕ) (t : Taken) : Type 0 where
  pub accepted : first_code_of (replay_refusals wanted block schedule size) ≡ 0
  pub case : t.case ≡ case_of block
  pub walk : IsWalk t.case (steps_of schedule) t.walked

-- What is answered where something is.
pub record IsRefused (block schedule : List ℕ) (size wanted : ℕ) (r : Replayed) : Type 0 where
  pub code : r.code ≡ first_code_of (replay_refusals wanted block schedule size)
  pub some : r.code ≡ 0 → ⊥
  pub steps : r.steps ≡ 0
  pub place : r.place ≡ 255
  pub position : r.position ≡ (read_of block).position

-- The place counters, then the queue lengths.
abbrev pub tail_of : Case → State → List ℕ
tail_of c s = present c (λ p. place_byte (s.places p)) ++ present c (λ p. how_many s.count (λ k. waiting p (s.actions k)))

-- A case, and a schedule of whole steps.
pub record Walking (c : Case) (schedule : List ℕ) : Type 0 where
  pub fit : Fit c
  pub whole : length schedule % 4 ≡ 0

-- A machine, and a buffer of this size.
pub record Showing (c : Case) (m : Machine) (size : ℕ) (out : List ℕ) : Type 0 where
  pub valid : Valid c m
  pub long : length out ≡ size
