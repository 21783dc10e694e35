-- What a search is given. Assumes nothing.
use Rattle.std.specs.Prelude.{◌≡◌, false, List, ℕ, ◌+◌, ◌*◌, ◌≤◌}
use Rattle.cases.specs.declared.Case.{Case}
use Rattle.records.specs.Buffer.{Held}
use Rattle.boards.specs.declared.Buffering.{Buffering}
use Rattle.boards.specs.Waiting.{held}
use Rattle.running.specs.declared.Arrays.{Arrays}
use Rattle.running.specs.Shown.{shown}
use Rattle.running.specs.Valid.{Valid}
use Rattle.boardlisting.specs.declared.Tally.{Tally}
use Rattle.boardlisting.specs.Searched.{Tells}
use Rattle.boardlisting.specs.Spent.{Known}

-- A machine with room for n stores more, at most `deep` moves to go, a buffer with room so far, and moves that need not be taken again.
pub record Ready (k : Buffering) (c : Case) (s : Arrays) (n deep spent : ℕ) (bytes : List ℕ) (y : Tally) : Type 0 where
  pub valid : Valid c s
  pub few : s.logged + n ≤ 48
  pub depth : 2 * n + held c (shown k c s).buffers ≤ deep
  pub room : y.full ≡ false
  pub held : Held bytes y.count
  pub known : Known k c (shown k c s) n spent (Tells bytes y)
