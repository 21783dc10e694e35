-- What a search from a state makes of a buffer and a tally. Assumes nothing.
use Rattle.std.specs.Prelude.{◌≡◌, Bool, true, false, List, ℕ}
use Rattle.cases.specs.declared.Case.{Case}
use Rattle.runs.specs.Wanted.{Wish}
use Rattle.rules.specs.State.{State}
use Rattle.sure.specs.Spent.{Spent}
use Rattle.sure.specs.Told.{Done, Question, outcome, cut, Told}
use Rattle.records.specs.Buffer.{Among}
use Rattle.records.specs.Growth.{Filled, Joined}
use Rattle.spending.specs.Words.{spent_by}
use Rattle.searching.specs.declared.Tally.{Tally}
use Rattle.searching.specs.Entered.{entered, Woken}

-- What a buffer of n records and a cut mark x tell.
abbrev pub Holds : List ℕ → ℕ → Bool → Question → Type 0
Holds bytes n x (outcome r) = Among bytes n r
Holds bytes n x cut = x ≡ true

-- The same of a tally.
abbrev pub Tells : List ℕ → Tally → Question → Type 0
Tells bytes y = Holds bytes y.count y.cut

-- From s with n steps to go and the steps sp spent: what is added are outcomes that are wanted, and unless there was no room all is told.
pub record Searched (c : Case) (W : Wish) (sp : Spent) (s : State) (n : ℕ) (before : List ℕ) (y : Tally) (after : List ℕ) (z : Tally) : Type 0 where
  pub filled : Filled (Joined before y.count (λ r. Done c s n r × (W r ≡ true))) before after z.count z.full
  pub told : z.full ≡ false → Told c W sp s n (Tells before y) (Tells after z)

-- The same of where a search goes on from s after the step at position i, if there is one, with the words `calm` of what stays spent there.
pub record Explored (c : Case) (W : Wish) (s : State) (i : ℕ) (spent : List ℕ) (n : ℕ) (before : List ℕ) (y : Tally) (after : List ℕ) (z : Tally) : Type 0 where
  pub calm : List ℕ
  pub woken : Woken s i spent calm
  pub searched : Searched c W (spent_by calm) (entered c s i) n before y after z
