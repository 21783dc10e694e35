-- What each export hands back, its code, its numbers and its bytes, as one statement. Assumes nothing.
use Rattle.std.specs.Prelude.{◌≡◌, Bool, cond, List, ℕ}
use Rattle.cases.specs.Block.{read_of, seal_fault, sealed}
use Rattle.runs.specs.Listing.{Listed}
use Rattle.replaying.specs.Answer.{Question, result, asked}
use Rattle.waiting.specs.Why.{waits}
use Rattle.listing.specs.Outcomes.{IsOutcomes}
use Rattle.boardlisting.specs.Outcomes.{machine_of, IsBoardOutcomes}

-- A mark as a number: 1 for yes, 0 for no.
abbrev pub mark_of : Bool → ℕ
mark_of b = cond b 1 0

-- A block is read: its code r, its position at, and the mark u of a usual bound that was dropped.
pub record ReadAs (block : List ℕ) (r at u : ℕ) : Type 0 where
  pub code : r ≡ (read_of block).code
  pub position : at ≡ (read_of block).position
  pub usual : u ≡ mark_of (read_of block).usual

-- A block is written: its code r and its position at, and the bytes out that the buffer then holds.
pub record WrittenAs (block : List ℕ) (r at : ℕ) (out : List ℕ) : Type 0 where
  pub code : r ≡ (seal_fault block).code
  pub position : at ≡ (seal_fault block).position
  pub bytes : out ≡ sealed block

-- A question is asked about a schedule, with a buffer of this size: the code r, n steps taken, the place i that the code names, the block's
-- position at, the buffer's bytes out.
pub record AnsweredAs (Q : Question) (block schedule : List ℕ) (size r n i at : ℕ) (out : List ℕ) : Type 0 where
  pub code : r ≡ (asked Q block schedule size).code
  pub steps : n ≡ (asked Q block schedule size).steps
  pub place : i ≡ (asked Q block schedule size).place
  pub position : at ≡ (read_of block).position
  pub bytes : out ≡ (asked Q block schedule size).bytes

-- A schedule is replayed; the processors are asked why they wait.
abbrev pub ReplayedAs : List ℕ → List ℕ → ℕ → ℕ → ℕ → ℕ → ℕ → List ℕ → Type 0
ReplayedAs = AnsweredAs result

abbrev pub WhyAs : List ℕ → List ℕ → ℕ → ℕ → ℕ → ℕ → ℕ → List ℕ → Type 0
WhyAs = AnsweredAs waits

-- The outcomes are listed, into a buffer of this size: the code r, the count n, the cut mark x, the block's position at, the buffer's bytes out.
pub record ListedAs (block : List ℕ) (bound size r n x at : ℕ) (out : List ℕ) : Type 0 where
  pub answer : Listed
  pub list : IsOutcomes block bound size answer at out
  pub code : r ≡ answer.code
  pub count : n ≡ answer.count
  pub cut : x ≡ mark_of answer.cut

-- The outcomes on the machine of a kind are listed, into a buffer of this size: code, numbers and bytes as above.
pub record BoardListedAs (kind : ℕ) (block : List ℕ) (bound size r n x at : ℕ) (out : List ℕ) : Type 0 where
  pub answer : Listed
  pub list : IsBoardOutcomes (machine_of kind) block bound size answer at out
  pub code : r ≡ answer.code
  pub count : n ≡ answer.count
  pub cut : x ≡ mark_of answer.cut
