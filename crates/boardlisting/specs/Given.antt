-- What the functions of a search are given, and what they give back. Assumes nothing.
use Rattle.std.specs.Prelude.{◌≡◌, true, List, ℕ, ◌+◌, ◌≤◌, ◌<◌}
use Rattle.words.specs.Sets.{has}
use Rattle.cases.specs.declared.Case.{Case}
use Rattle.runs.specs.Listing.{Refused}
use Rattle.records.specs.Buffer.{Held}
use Rattle.machine.specs.Fit.{Fit}
use Rattle.boards.specs.declared.Buffering.{Buffering}
use Rattle.boards.specs.Board.{Board}
use Rattle.boards.specs.Machine.{Move, allowed, moved, ended}
use Rattle.boards.specs.Apart.{apart}
use Rattle.boards.specs.Listing.{IsBoardList}
use Rattle.stores.specs.Log.{Waits}
use Rattle.running.specs.declared.Arrays.{Arrays}
use Rattle.running.specs.Shown.{shown}
use Rattle.running.specs.Valid.{Valid}
use Rattle.boardlisting.specs.declared.Answer.{Answer}
use Rattle.boardlisting.specs.Moves.{move_at, left_by}
use Rattle.boardlisting.specs.Outcomes.{answer_of}

-- A position, and the set of the buffers that hold a store.
pub record Opening (k : Buffering) (c : Case) (s : Arrays) (holding i : ℕ) : Type 0 where
  pub valid : Valid c s
  pub position : i < 36
  pub waits : Waits k s.log s.logged holding

-- The move at position i may be taken.
pub record Touching (k : Buffering) (c : Case) (s : Arrays) (i : ℕ) : Type 0 where
  pub valid : Valid c s
  pub position : i < 36
  pub free : allowed k c (shown k c s) (move_at i) ≡ true

-- The same, with room in the log.
pub record Taking (k : Buffering) (c : Case) (s : Arrays) (i : ℕ) : Type 0 where
  pub valid : Valid c s
  pub position : i < 36
  pub room : s.logged < 48
  pub free : allowed k c (shown k c s) (move_at i) ≡ true

-- r is the machine after it, with room for the instructions to go.
pub record Taken (k : Buffering) (c : Case) (s : Arrays) (i : ℕ) (r : Arrays) : Type 0 where
  pub shows : shown k c r ≡ moved k c (shown k c s) (move_at i)
  pub valid : Valid c r
  pub few : (n : ℕ) → 0 < n → s.logged + n ≤ 48 → r.logged + left_by i n ≤ 48

-- The move at position i may be taken where it is done.
pub record Sparing (k : Buffering) (c : Case) (s : Arrays) (done i : ℕ) : Type 0 where
  pub valid : Valid c s
  pub position : i < 36
  pub free : has done i ≡ true → allowed k c (shown k c s) (move_at i) ≡ true

-- j is position i, which is done and apart from a move m.
pub record Spared (k : Buffering) (c : Case) (b : Board) (m : Move) (done i j : ℕ) : Type 0 where
  pub here : j ≡ i
  pub had : has done i ≡ true
  pub far : apart k c b m (move_at i) ≡ true

-- The move at position i may be taken, and so may those that are done.
pub record Keeping (k : Buffering) (c : Case) (s : Arrays) (done i : ℕ) : Type 0 where
  pub valid : Valid c s
  pub position : i < 36
  pub free : allowed k c (shown k c s) (move_at i) ≡ true
  pub taken : (j : ℕ) → has done j ≡ true → allowed k c (shown k c s) (move_at j) ≡ true

-- A machine at the end of every program, and a buffer of n records.
pub record Finishing (k : Buffering) (c : Case) (s : Arrays) (bytes : List ℕ) (n : ℕ) : Type 0 where
  pub valid : Valid c s
  pub held : Held bytes n
  pub ended : ended c (shown k c s) ≡ true

-- A case, and a bound of instructions that the log has room for.
pub record Searching (c : Case) (n : ℕ) : Type 0 where
  pub fit : Fit c
  pub bound : n ≤ 48

-- The answer r lists the case, and its position is 0.
pub record Found (k : Buffering) (c : Case) (n size : ℕ) (r : Answer) (out : List ℕ) : Type 0 where
  pub listed : IsBoardList k c n size (answer_of r) out
  pub position : r.position ≡ 0

-- The answer r refuses with this code and this position.
pub record RefusedAt (code at size : ℕ) (r : Answer) (out : List ℕ) : Type 0 where
  pub refused : Refused code size (answer_of r) out
  pub position : r.position ≡ at
