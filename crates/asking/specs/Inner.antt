-- What the parts of the search for the lowest schedule are given and answer. Assumes nothing.
use Rattle.std.specs.Prelude.{◌≡◌, Option, Some, None, ◌↔◌, Bool, true, false, List, ◌++◌, ℕ, suc, ◌+◌, ◌*◌, ◌-◌, ◌≤◌, ◌<◌, length, replicate}
use Rattle.words.specs.Small.{concat_map}
use Rattle.cases.specs.declared.Case.{Case}
use Rattle.clauses.specs.declared.Asked.{Asked}
use Rattle.clauses.specs.Wanted.{Askable, wanted}
use Rattle.runs.specs.Outcome.{CutFrom}
use Rattle.runs.specs.Reachable.{Reachable}
use Rattle.runs.specs.Wanted.{Wish, WantedFrom, LowestFrom}
use Rattle.runs.specs.Listing.{below}
use Rattle.rules.specs.Result.{finished}
use Rattle.rules.specs.State.{State, initial}
use Rattle.rules.specs.Step.{Step, issue, commit, neither, step_code, after}
use Rattle.rules.specs.Womm.{womm}
use Rattle.rules.specs.Bytes.{step_bytes}
use Rattle.sure.specs.Spent.{step_by}
use Rattle.sure.specs.Sure.{forward}
use Rattle.machine.specs.declared.Machine.{Machine}
use Rattle.machine.specs.Fit.{Fit}
use Rattle.machine.specs.Shown.{shown}
use Rattle.machine.specs.Valid.{Valid}
use Rattle.machine.specs.Lent.{Program}
use Rattle.spending.specs.Words.{key_at, opens_at}
use Rattle.std.specs.declared.ops.Range.{Range}
use Rattle.asking.specs.declared.Reach.{Reach}

-- The program of a case, a machine that is reached, with at most 96 steps to go, and clauses that can be asked.
pub record Standing (c : Case) (program : List ℕ) (m : Machine) (n : ℕ) (ahead : Bool) (asked : Asked) : Type 0 where
  pub coded : Program c program
  pub valid : Valid c m
  pub reached : Reachable (womm c) (shown c m)
  pub forwards : ahead ≡ forward c
  pub few : n ≤ 96
  pub asks : Askable asked

-- Within n steps from s an outcome is wanted.
abbrev pub InReach : Case → Wish → State → ℕ → Type 0
InReach c W = WantedFrom (womm c) W

-- Found exactly if one is; if not, cut exactly if a run of n steps is unfinished.
pub record ReachOf (c : Case) (W : Wish) (s : State) (n : ℕ) (r : Reach) : Type 0 where
  pub found : (r.found ≡ true) ↔ InReach c W s n
  pub cut : r.found ≡ false → (r.cut ≡ true) ↔ CutFrom (womm c) s n

-- The step at a position.
abbrev pub step_at : State → ℕ → Step
step_at s j = step_by s (key_at j)

-- Such a machine, with a step to go, and positions to look at.
pub record Looking (c : Case) (program : List ℕ) (m : Machine) (n : ℕ) (ahead : Bool) (asked : Asked) (from to : ℕ) : Type 0 where
  pub standing : Standing c program m n ahead asked
  pub more : 0 < n
  pub rising : from ≤ to
  pub upto : to ≤ 3200

-- Such a machine, not finished, from which an outcome is wanted.
pub record Leading (c : Case) (program : List ℕ) (m : Machine) (n : ℕ) (ahead : Bool) (asked : Asked) : Type 0 where
  pub standing : Standing c program m n ahead asked
  pub more : 0 < n
  pub undone : finished c (shown c m) ≡ false
  pub held : InReach c (wanted asked) (shown c m) n

-- A machine that is reached, and a row of its steps.
pub record Rowed (c : Case) (m : Machine) (i : ℕ) : Type 0 where
  pub valid : Valid c m
  pub reached : Reachable (womm c) (shown c m)
  pub low : i < 193

-- A machine, and the position of an accepted step.
pub record Fitting (c : Case) (m : Machine) (j : ℕ) : Type 0 where
  pub valid : Valid c m
  pub low : j < 3200
  pub fits : step_code c (shown c m) (step_at (shown c m) j) ≡ 0

-- The same, and the program of its case.
pub record Going (c : Case) (program : List ℕ) (m : Machine) (j : ℕ) : Type 0 where
  pub coded : Program c program
  pub fitting : Fitting c m j

-- A case from whose start an outcome is wanted, and an empty schedule.
pub record Wanting (c : Case) (program : List ℕ) (n : ℕ) (ahead : Bool) (asked : Asked) (bytes : List ℕ) : Type 0 where
  pub fit : Fit c
  pub coded : Program c program
  pub forwards : ahead ≡ forward c
  pub few : n ≤ 96
  pub asks : Askable asked
  pub held : InReach c (wanted asked) (initial c) n
  pub clear : bytes ≡ replicate 384 0

-- The first position from `from` on after whose step, which is accepted, one is within n steps, or `to` where there is none before it.
pub record FirstInReach (c : Case) (W : Wish) (s : State) (n from to j : ℕ) : Type 0 where
  pub least : from ≤ j
  pub upto : j ≤ to
  pub skipped : (i : ℕ) → from ≤ i → i < j → opens_at c s i ≡ true → InReach c W (after c s (step_at s i)) n → ⊥
  pub found : j < to → (step_code c s (step_at s j) ≡ 0) × InReach c W (after c s (step_at s j)) n

-- That position where there is one.
abbrev pub FirstIn : Case → Wish → State → ℕ → ℕ → ℕ → Option ℕ → Type 0
FirstIn c W s n from to (Some j) = FirstInReach c W s n from to j × (j < to)
FirstIn c W s n from to None = FirstInReach c W s n from to to

-- Steps in rows: all issues, then the commits of each processor and action; within a row by processor or by source.
abbrev pub row_of : Step → ℕ
row_of (issue p) = 0
row_of (commit p k e) = suc (48 * p + k)
row_of neither = 0

abbrev pub rank_in : Step → ℕ
rank_in (issue p) = p
rank_in (commit p k e) = e
rank_in neither = 0

-- The position of a step of row i.
pub record Placed (c : Case) (s : State) (r : Range ℕ) (t : Step) : Type 0 where
  pub at : ℕ
  pub from : r.start ≤ at
  pub to : at < r.end
  pub opened : opens_at c s at ≡ true
  pub step : t ≡ step_at s at
  pub order : at ≡ r.start + rank_in t

-- The positions of row i, in order.
pub record RowSpan (c : Case) (s : State) (i : ℕ) (r : Range ℕ) : Type 0 where
  pub rising : r.start ≤ r.end
  pub upto : r.end ≤ 3200
  pub covers : (t : Step) → step_code c s t ≡ 0 → row_of t ≡ i → Placed c s r t
  pub inside : (j : ℕ) → r.start ≤ j → j < r.end → (row_of (step_at s j) ≡ i) × (j ≡ r.start + rank_in (step_at s j))

-- The step to take: accepted, one is within n steps after it, and within n steps after none that is lower.
pub record LowestAt (c : Case) (W : Wish) (s : State) (n j : ℕ) : Type 0 where
  pub small : j < 3200
  pub fits : step_code c s (step_at s j) ≡ 0
  pub held : InReach c W (after c s (step_at s j)) n
  pub barred : (u : Step) → step_code c s u ≡ 0 → below (step_bytes u) (step_bytes (step_at s j)) ≡ true → InReach c W (after c s u) n → ⊥

-- A case, a bound, clauses that can be asked, and a buffer at its size.
pub record Settling (c : Case) (n : ℕ) (asked : Asked) (out : List ℕ) : Type 0 where
  pub fit : Fit c
  pub few : n ≤ 96
  pub asks : Askable asked
  pub long : length out ≡ 384
