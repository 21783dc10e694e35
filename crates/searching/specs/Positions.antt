-- The positions that a search sweeps, and the one that it takes next. Assumes nothing.
use Rattle.std.specs.Prelude.{◌≡◌, ◌⊎◌, true, List, ℕ, ◌+◌, ◌*◌, ◌≤◌, ◌<◌}
use Rattle.words.specs.Sets.{has}
use Rattle.cases.specs.declared.Case.{Case}
use Rattle.rules.specs.State.{State}
use Rattle.rules.specs.Step.{step_code}
use Rattle.sure.specs.Quiet.{quiet}
use Rattle.sure.specs.Spent.{taking, step_by}
use Rattle.spending.specs.Words.{spent_by, key_at, opens}
use Rattle.choices.specs.Choice.{NextAt}
use Rattle.searching.specs.declared.Sweep.{Sweep}

-- Those of the sources of a quiet read.
pub record QuietSpan (c : Case) (s : State) (r : Sweep) : Type 0 where
  pub read : ℕ
  pub item : ℕ
  pub small : read < 48
  pub calm : quiet c s read ≡ true
  pub seen : step_code c s (step_by s (taking read item)) ≡ 0
  pub from : r.from ≡ 64 * read
  pub to : r.to ≡ 64 * read + 64
  pub sources : (i : ℕ) → has r.sources i ≡ opens c s read i

-- All of them.
abbrev pub FullSpan : Sweep → Type 0
FullSpan r = (r.from ≡ 0) × (r.to ≡ 3200) × (r.sources ≡ 0)

-- That of a sure step at j, unless it is spent; else those of a quiet read's sources, or all.
pub record Swept (c : Case) (s : State) (spent : List ℕ) (j : ℕ) (r : Sweep) : Type 0 where
  pub sure : j < 3200 → (r.from ≡ j) × (((r.to ≡ j) × (spent_by spent (key_at j) ≡ true)) ⊎ (r.to ≡ j + 1))
  pub lone : j < 3200 → r.sources ≡ 0
  pub rest : 3200 ≤ j → QuietSpan c s r ⊎ FullSpan r

-- That of the sure step, which stands first; else the first from `at` on whose step is accepted and not spent.
pub record Chosen (c : Case) (s : State) (now : List ℕ) (at to j r : ℕ) : Type 0 where
  pub sure : j < 3200 → r ≡ at
  pub rest : 3200 ≤ j → NextAt c s now at to r
