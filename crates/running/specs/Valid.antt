-- What holds of every machine that is reached. Assumes nothing.
use Rattle.std.specs.Prelude.{◌≡◌, ℕ, ◌≤◌, ◌<◌, length, get_or}
use Rattle.cases.specs.declared.Case.{Case}
use Rattle.machine.specs.Fit.{Fit}
use Rattle.running.specs.declared.Arrays.{Arrays}
use Rattle.stores.specs.Log.{blank}

pub record Valid (c : Case) (s : Arrays) : Type 0 where
  pub fit : Fit c
  pub logged : s.logged ≤ 48
  pub places_long : length s.places ≡ 4
  pub values_long : length s.values ≡ 32
  pub holders_long : length s.holders ≡ 8
  pub memory_long : length s.memory ≡ 8
  pub log_long : length s.log ≡ 48
  pub places : (p : ℕ) → p < 4 → get_or s.places p 0 ≤ 12
  pub stores : (j : ℕ) → j < s.logged → (get_or s.log j blank).loc < 8
