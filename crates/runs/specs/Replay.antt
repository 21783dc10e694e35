-- A schedule, taken step by step. Assumes nothing.
use Rattle.std.specs.Prelude.{List, [], ◌∷◌, ℕ, zero, suc}
use Rattle.runs.specs.Model.{Model}

-- The code of the first refused step, or 0; the number of steps taken before it; the state then.
pub record Replay (S : Type 0) : Type 0 where
  pub code : ℕ
  pub taken : ℕ
  pub state : S

-- A step that gets code n in state s; r is the replay of the rest, which counts where the step is accepted.
abbrev pub resumed : {S : Type 0} → ℕ → S → Replay S → Replay S
resumed zero s r = record { code = r.code; taken = suc r.taken; state = r.state }
resumed (suc n) s r = record { code = suc n; taken = 0; state = s }

unfoldable pub replay : (m : Model) → m.State → List m.Step → Replay m.State
replay m s [] = record { code = 0; taken = 0; state = s }
replay m s (t ∷ ts) = resumed (m.code s t) s (replay m (m.next s t) ts)
