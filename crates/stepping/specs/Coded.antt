-- What a step is asked of, and what it is taken on. Assumes nothing.
use Rattle.std.specs.Prelude.{◌≡◌, true, List, ℕ, ◌≤◌, ◌<◌, length, get_or}
use Rattle.cases.specs.declared.Case.{Case}
use Rattle.rules.specs.Step.{Step, naming}
use Rattle.machine.specs.Given.{Accepted}
use Rattle.machine.specs.Lent.{machine_of, Program}

-- Counts, processors and a number of actions that a case can have, and the names and holders at their number.
pub record Asking (counts names holders : List ℕ) (procs n : ℕ) : Type 0 where
  pub issued : n ≤ 48
  pub few : procs ≤ 4
  pub counted : (p : ℕ) → get_or counts p 0 ≤ 12
  pub names_long : length names ≡ 32
  pub holders_long : length holders ≡ 8

-- A code that names an instruction is one of a processor's issue or of an action's commit.
pub record Placing (kind proc action code : ℕ) : Type 0 where
  pub issue : naming code ≡ true → kind ≡ 0 → proc < 4
  pub commit : naming code ≡ true → (kind ≡ 0 → ⊥) → action < 48

-- Arrays of a case's program and of a machine that accepts the step t.
pub record Taking (program places names holders acts rows sets : List ℕ) (n : ℕ) (t : Step) : Type 0 where
  pub case : Case
  pub coded : Program case program
  pub accepted : Accepted case (machine_of n places names holders acts rows sets) t
