-- Sources whose value a spent one has. Assumes nothing.
use Rattle.std.specs.Prelude.{◌≡◌, Bool, true, false, ◌&&◌, not, List, ℕ, ◌<◌, eqb, get_or}
use Rattle.words.specs.Small.{or_zero, some_below}
use Rattle.words.specs.Sets.{has}
use Rattle.cases.specs.declared.Case.{Case}
use Rattle.rules.specs.State.{State, item_value}
use Rattle.sure.specs.Equal.{same_value}

-- Item f is in both sets, and a read takes v from it.
abbrev pub gives_in : Case → State → ℕ → ℕ → ℕ → ℕ → Bool
gives_in c s word done v f = (has word f && has done f) && eqb v (or_zero (item_value c s f))

-- Item e is in the set `word`, and no item of both sets gives a read what e gives it.
abbrev pub is_novel : Case → State → ℕ → ℕ → ℕ → Bool
is_novel c s word done e = has word e && not (some_below 64 (gives_in c s word done (or_zero (item_value c s e))))

-- Among the accepted steps `word` of word w, those of a read, a spent one has the value of item e.
pub record EchoIn (c : Case) (s : State) (now : List ℕ) (w word e : ℕ) : Type 0 where
  pub low : w < 48
  pub source : ℕ
  pub small : source < 64
  pub spent : has (get_or now w 0) source ≡ true
  pub seen : has word source ≡ true
  pub same : same_value c s e source ≡ true

-- Of the accepted steps `word` of word w, r leaves out only such as have the value of a spent one.
pub record Unechoed (c : Case) (s : State) (now : List ℕ) (w word r : ℕ) : Type 0 where
  pub inside : (e : ℕ) → has r e ≡ true → has word e ≡ true
  pub gone : (e : ℕ) → e < 64 → has word e ≡ true → has r e ≡ false → EchoIn c s now w word e
