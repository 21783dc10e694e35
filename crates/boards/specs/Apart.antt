-- Moves that may change places: a search that has taken one first need not take it after the other. Assumes nothing.
use Rattle.std.specs.Prelude.{◌≡◌, Bool, true, false, ◌&&◌, ◌||◌, not, cond, List, [], ◌∷◌, ℕ, eqb}
use Rattle.std.proofs.Math.Option.{Option, none, some}
use Rattle.words.specs.Small.{is}
use Rattle.cases.specs.declared.Case.{Case}
use Rattle.rules.specs.Kinds.{kind, reading}
use Rattle.boards.specs.declared.Buffering.{Buffering}
use Rattle.boards.specs.Board.{slot, Store, Board}
use Rattle.boards.specs.Run.{instruction, operand}
use Rattle.boards.specs.Machine.{Move, run, drain}
use Rattle.boards.specs.Quiet.{quiet}

-- The processor of a move.
abbrev pub who : Move → ℕ
who (run p) = p
who (drain p n) = p

-- The location of the oldest store.
abbrev pub oldest_at : List Store → Option ℕ
oldest_at [] = none
oldest_at (x ∷ xs) = some x.loc

-- Each buffer's oldest store is one that enters it.
pub record Placed (k : Buffering) (b : Board) : Type 0 where
  pub enters : (p n l : ℕ) → oldest_at (b.buffers p n) ≡ some l → slot k l ≡ some n

-- The same number.
abbrev pub alike : Option ℕ → Option ℕ → Bool
alike none o = false
alike (some l) o = is l o

module _ (k : Buffering) (c : Case) (b : Board) where
  -- The location whose word or lock a move looks at or changes; a quiet instruction has none.
  unfoldable pub touches : Move → Option ℕ
  touches (run p) = cond (quiet k c b p) none (some (operand k c b p 0))
  touches (drain p n) = oldest_at (b.buffers p n)

  -- A read: it changes nothing there.
  unfoldable pub looks : Move → Bool
  looks (run p) = reading (kind (instruction k c b p))
  looks (drain p n) = false

  -- A read or a drain.
  unfoldable pub light : Move → Bool
  light (run p) = reading (kind (instruction k c b p))
  light (drain p n) = true

  -- Of one processor: reads and drains. Of two: not at one location, or both look.
  unfoldable pub apart : Move → Move → Bool
  apart m z = cond (eqb (who m) (who z)) (light m && light z) (not (alike (touches m) (touches z)) || (looks m && looks z))
