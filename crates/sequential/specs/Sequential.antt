-- A run without a race is a sequential run: requests 07 and 10 joined. Assumes nothing.
use Rattle.std.specs.Prelude.{◌≡◌, true, false, List, ◌↔◌, ℕ, ◌*◌, ◌≤◌, length}
use Rattle.std.proofs.Math.Option.{some}
use Rattle.cases.specs.declared.Case.{Case}
use Rattle.cases.specs.Block.{Sound, case_of}
use Rattle.runs.specs.Outcome.{Leads}
use Rattle.runs.specs.Outcome as Runs
use Rattle.rules.specs.State.{State, initial, value_of}
use Rattle.rules.specs.Step.{Step}
use Rattle.rules.specs.Result.{finished, registers}
use Rattle.rules.specs.Womm.{womm}
use Rattle.races.specs.Race.{FirstRace}
use Rattle.racing.specs.declared.Raced.{Raced}
use Rattle.racing.specs.Answer.{queued, reached, IsRace}
use Rattle.boards.specs.declared.Buffering.TheVariants.{Direct}
use Rattle.boards.specs.Board.{Board, opening}
use Rattle.boards.specs.Machine.{Move, board}
use Rattle.boards.specs.Listing.{instructions, Outcome}

-- Some run of the SC machine, one instruction for each action of s, ends with the places and the registers of s.
pub record Sequential (c : Case) (s : State) : Type 0 where
  pub moves : List Move
  pub end : Board
  pub leads : Leads (board Direct c) (opening c) moves end
  pub whole : instructions moves ≡ s.count
  pub places : (p : ℕ) → s.places p ≡ some (end.places p)
  pub values : (p r : ℕ) → value_of s (s.names p r) ≡ end.values p r

-- An accepted schedule that leaves all queues empty, and for which request 10 answers that there is no race.
pub record RaceFree (c : Case) (ts : List Step) (s : State) : Type 0 where
  pub leads : Leads (womm c) (initial c) ts s
  pub empty : queued s ≡ false
  pub none : FirstRace ts s 255 255

-- It is sequential, whatever the case.
abbrev pub RaceFreeSequential : Type 0
RaceFreeSequential = (c : Case) (ts : List Step) (s : State) → RaceFree c ts s → Sequential c s

-- So is the run of a schedule to which `womm_race` answers code 0 and no pair.
abbrev pub AnsweredSequential : Type 0
AnsweredSequential = (block schedule : List ℕ) (r : Raced) → IsRace block schedule r → r.code ≡ 0 → r.first ≡ 255 → r.second ≡ 255 → Sequential (case_of block) (reached block schedule)

-- Finished, its result is one of the SC machine's within as many instructions as there are actions.
abbrev pub RaceFreeOutcome : Type 0
RaceFreeOutcome = (c : Case) (ts : List Step) (s : State) → RaceFree c ts s → finished c s ≡ true → Outcome Direct c s.count (registers c s)

-- No finished run of at most n steps has a race.
abbrev pub NeverRaces : Case → ℕ → Type 0
NeverRaces c n = (ts : List Step) (s : State) → Leads (womm c) (initial c) ts s → length ts ≤ n → finished c s ≡ true → FirstRace ts s 255 255

-- Of a sound case of which that is so, the results within n instructions of the SC machine and within 2 × n steps of the WOMM are the same.
abbrev pub RaceFreeLists : Type 0
RaceFreeLists = (c : Case) → Sound c → (n : ℕ) → n ≤ 48 → NeverRaces c (2 * n) → (r : List ℕ) → Outcome Direct c n r ↔ Runs.Outcome (womm c) (2 * n) r
