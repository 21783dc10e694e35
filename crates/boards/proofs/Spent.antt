-- What can be found after a move that was taken before need not be found again after another that is apart from it. Assumes nothing.
use mathlib.Core.Path.{◌≡◌, refl, subst}
use Prim.Native.Nat.{ℕ}
use Rattle.cases.specs.declared.Case.{Case}
use Rattle.boards.specs.declared.Buffering.{Buffering}
use Rattle.boards.specs.Board.{Board}
use Rattle.boards.specs.Machine.{Move, run, drain, moved}
use Rattle.boards.specs.Listing.{counted}
use Rattle.boards.specs.Question.{Question, Yes}
use Rattle.boards.proofs.Answers.{move_more}
use Rattle.boards.proofs.Crossing.{Crossing}

pub counted_swap : (m z : Move) (n : ℕ) → counted m (counted z n) ≡ counted z (counted m n)
counted_swap (run p) (run q) n = refl
counted_swap (run p) (drain q i) n = refl
counted_swap (drain p i) (run q) n = refl
counted_swap (drain p i) (drain q j) n = refl

-- FOUND ALREADY: all that m and then z lead to stands among what z leads to
pub found_already : (k : Buffering) (c : Case) (b : Board) (m z : Move) → Crossing k c b m z → (n : ℕ) (q : Question) → Yes k c (moved k c (moved k c b m) z) n q → Yes k c (moved k c b z) (counted m n) q
found_already k c b m z X n q y = move_more k c (moved k c b z) m n X.sooner q (subst (λ x. Yes k c x n q) X.meets y)
