-- What the functions of a hand-off are given. Assumes nothing.
use Rattle.std.specs.Prelude.{◌≡◌, true, List, ℕ, ◌≤◌, ◌<◌, length}
use Rattle.cases.specs.declared.Case.{Case}
use Rattle.clauses.specs.declared.Asked.{Asked}
use Rattle.clauses.specs.Wanted.{Askable}
use Rattle.machine.specs.Fit.{Fit}
use Rattle.handoffs.specs.declared.Plan.{Plan}
use Rattle.handoffs.specs.Plans.{legal}
use Rattle.handoffs.specs.Inner.{Level, Few}

-- Two plans of at most four actions.
pub record Short (sending receiving : List ℕ) : Type 0 where
  pub sender : length sending ≤ 4
  pub receiver : length receiving ≤ 4

-- A case, and a bound of steps that a search takes.
pub record Bounded (c : Case) (n : ℕ) : Type 0 where
  pub fit : Fit c
  pub bound : n ≤ 96

-- The same with what is asked, where every finished run has n steps, and a whole buffer.
pub record Improving (c : Case) (n : ℕ) (asked : Asked) (out : List ℕ) : Type 0 where
  pub fit : Fit c
  pub bound : n ≤ 96
  pub askable : Askable asked
  pub level : Level c n
  pub long : length out ≡ 384

-- The registers of ready and of an action d that can read.
pub record Considering (c : Case) (n ready d k : ℕ) (out : List ℕ) : Type 0 where
  pub fit : Fit c
  pub bound : n ≤ 96
  pub ready_low : ready < 8
  pub low : d < 4 → k < 8
  pub level : Level c n
  pub long : length out ≡ 384

-- The same of two actions.
pub record ConsideringTwo (c : Case) (n ready d k e l : ℕ) (out : List ℕ) : Type 0 where
  pub fit : Fit c
  pub bound : n ≤ 96
  pub ready_low : ready < 8
  pub low : d < 4 → k < 8
  pub other_low : e < 4 → l < 8
  pub level : Level c n
  pub long : length out ≡ 384

-- The same of a receiving plan.
pub record Comparing (c : Case) (n : ℕ) (r : Plan) (out : List ℕ) : Type 0 where
  pub fit : Fit c
  pub bound : n ≤ 96
  pub few : Few r
  pub level : Level c n
  pub long : length out ≡ 384

-- Two plans that are ones, and a whole buffer.
pub record Judging (sending receiving out : List ℕ) : Type 0 where
  pub lawful : legal sending receiving ≡ true
  pub long : length out ≡ 384
