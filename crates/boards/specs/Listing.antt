-- Request 07: what the list of a store-buffer machine says. Assumes nothing.
use Rattle.std.specs.Prelude.{◌≡◌, true, false, List, [], ◌∷◌, ℕ, suc, ◌≤◌}
use Rattle.cases.specs.declared.Case.{Case}
use Rattle.runs.specs.Outcome.{Leads}
use Rattle.runs.specs.Listing.{Listed, IsListOf}
use Rattle.boards.specs.declared.Buffering.{Buffering}
use Rattle.boards.specs.Board.{Board, opening}
use Rattle.boards.specs.Machine.{Move, run, drain, ended, finished, registers, board}

-- One more where the move is an instruction: 'drains are not counted'.
abbrev pub counted : Move → ℕ → ℕ
counted (run p) n = suc n
counted (drain p b) n = n

-- The number of instructions of a run.
unfoldable pub instructions : List Move → ℕ
instructions [] = 0
instructions (m ∷ ms) = counted m (instructions ms)

module _ (k : Buffering) (c : Case) where
  -- A finished run of at most n instructions from s leaves r in the registers.
  pub record OutcomeFrom (s : Board) (n : ℕ) (r : List ℕ) : Type 0 where
    pub moves : List Move
    pub end : Board
    pub short : instructions moves ≤ n
    pub leads : Leads (board k c) s moves end
    pub done : finished c end ≡ true
    pub gives : registers c end ≡ r

  -- 'Cut means a run of exactly A instructions after which some place counter is not at its processor's count, buffers aside.'
  pub record CutFrom (s : Board) (n : ℕ) : Type 0 where
    pub moves : List Move
    pub end : Board
    pub exact : instructions moves ≡ n
    pub leads : Leads (board k c) s moves end
    pub undone : ended c end ≡ false

  abbrev pub Outcome : ℕ → List ℕ → Type 0
  Outcome = OutcomeFrom (opening c)

  abbrev pub Cut : ℕ → Type 0
  Cut = CutFrom (opening c)

  -- 'Demand 3 holds of it with these steps': the answer a and the bytes out of a buffer of this size, for a bound of n instructions.
  abbrev pub IsBoardList : ℕ → ℕ → Listed → List ℕ → Type 0
  IsBoardList n = IsListOf (Outcome n) (Cut n)
