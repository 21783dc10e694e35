-- Moves that a search has taken already, as a set of positions, and those of them that it leaves out after another. Assumes nothing.
use Rattle.std.specs.Prelude.{◌≡◌, Bool, true, ◌&&◌, ◌||◌, not, cond, ℕ, ◌≤◌, eqb, is_some, unwrap_or}
use Rattle.words.specs.Sets.{has}
use Rattle.cases.specs.declared.Case.{Case}
use Rattle.machine.specs.Shown.{option_of}
use Rattle.boards.specs.declared.Buffering.{Buffering}
use Rattle.boards.specs.Board.{Board}
use Rattle.boards.specs.Machine.{Move, allowed, moved}
use Rattle.boards.specs.Listing.{counted}
use Rattle.boards.specs.Question.{Question, Yes}
use Rattle.boards.specs.Apart.{who, alike, touches, apart}
use Rattle.boards.specs.Apart as Apart
use Rattle.boardlisting.specs.declared.Touch.{Touch}
use Rattle.boardlisting.specs.Moves.{move_at}

-- From b with n instructions to go: each spent move is allowed, and T holds of all that can be found after it.
pub record Known (k : Buffering) (c : Case) (b : Board) (n spent : ℕ) (T : Question → Type 0) : Type 0 where
  pub taken : (i : ℕ) → has spent i ≡ true → allowed k c b (move_at i) ≡ true
  pub told : (i : ℕ) → has spent i ≡ true → (r : ℕ) → n ≡ counted (move_at i) r → (q : Question) → Yes k c (moved k c b (move_at i)) r q → T q

-- t is what a move touches, and how.
pub record Touched (k : Buffering) (c : Case) (b : Board) (m : Move) (t : Touch) : Type 0 where
  pub proc : t.proc ≡ who m
  pub there : option_of (is_some t.at) (unwrap_or t.at 0) ≡ touches k c b m
  pub looks : t.looks ≡ Apart.looks k c b m
  pub light : t.light ≡ Apart.light k c b m

-- Two moves are apart, by what they touch.
abbrev pub apart_by : Touch → Touch → Bool
apart_by m z = cond (eqb m.proc z.proc) (m.light && z.light) (not (alike (option_of (is_some m.at) (unwrap_or m.at 0)) (option_of (is_some z.at) (unwrap_or z.at 0))) || (m.looks && z.looks))

-- Of those that are done, r stay spent after the move at position i; with no sure instruction all of them are apart from it.
pub record Kept (k : Buffering) (c : Case) (b : Board) (sure done i r : ℕ) : Type 0 where
  pub had : (j : ℕ) → has r j ≡ true → has done j ≡ true
  pub far : (j : ℕ) → has r j ≡ true → 4 ≤ sure → apart k c b (move_at i) (move_at j) ≡ true
