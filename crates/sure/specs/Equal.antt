-- Equal sources: a read takes a value, so one of the items that have it is enough. Assumes nothing.
use Rattle.std.specs.Prelude.{◌≡◌, ◌⊎◌, Bool, true, ℕ, eqb}
use Rattle.words.specs.Small.{or_zero}
use Rattle.cases.specs.declared.Case.{Case}
use Rattle.rules.specs.State.{State, item_value}
use Rattle.rules.specs.Step.{step_code}
use Rattle.sure.specs.Spent.{Key, taking, issuing, Spent, step_by}

-- A read takes the same value from item e as from item f.
abbrev pub same_value : Case → State → ℕ → ℕ → Bool
same_value c s e f = eqb (or_zero (item_value c s e)) (or_zero (item_value c s f))

-- A spent source, accepted at s, gives action k what item e gives it.
pub record Echoes (c : Case) (s : State) (now : Spent) (k e : ℕ) : Type 0 where
  pub source : ℕ
  pub rests : now (taking k source) ≡ true
  pub fits : step_code c s (step_by s (taking k source)) ≡ 0
  pub same : same_value c s e source ≡ true

-- The step of the key is spent, or does what a spent one does.
abbrev pub Needless : Case → State → Spent → Key → Type 0
Needless c s now (taking k e) = (now (taking k e) ≡ true) ⊎ Echoes c s now k e
Needless c s now (issuing p) = now (issuing p) ≡ true
