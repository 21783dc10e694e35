-- Each export's statement, as the export makes it, has at most one answer: code, numbers and bytes. Assumes nothing.
use mathlib.Core.Path.{◌≡◌, ap, sym, ◌∙◌}
use mathlib.Core.List.{List}
use Prim.Native.Nat.{ℕ}
use Rattle.runs.specs.Listing.{Listed}
use Rattle.replaying.specs.Answer.{Question, result}
use Rattle.waiting.specs.Why.{waits}
use Rattle.racing.specs.Answer.{RacedAs}
use Rattle.racing.proofs.Answers.{race_unique}
use Rattle.listing.proofs.Exact.{outcomes_unique}
use Rattle.boardlisting.specs.Outcomes.{machine_of}
use Rattle.boardlisting.proofs.Refusals as Boards
use Rattle.womm.specs.Exports.{mark_of, ReadAs, WrittenAs, AnsweredAs, ReplayedAs, WhyAs, ListedAs, BoardListedAs}

pub one_read : (block : List ℕ) (r r' at at' u u' : ℕ) → ReadAs block r at u → ReadAs block r' at' u' → (r ≡ r') × (at ≡ at') × (u ≡ u')
one_read block r r' at at' u u' a b = (a.code ∙ sym b.code, a.position ∙ sym b.position, a.usual ∙ sym b.usual)

pub one_write : (block : List ℕ) (r r' at at' : ℕ) (out out' : List ℕ) → WrittenAs block r at out → WrittenAs block r' at' out' → (r ≡ r') × (at ≡ at') × (out ≡ out')
one_write block r r' at at' out out' a b = (a.code ∙ sym b.code, a.position ∙ sym b.position, a.bytes ∙ sym b.bytes)

-- a question about a schedule: a replay, and why
one_answered : (Q : Question) (block schedule : List ℕ) (size r r' n n' i i' at at' : ℕ) (out out' : List ℕ) → AnsweredAs Q block schedule size r n i at out → AnsweredAs Q block schedule size r' n' i' at' out' → (r ≡ r') × (n ≡ n') × (i ≡ i') × (at ≡ at') × (out ≡ out')
one_answered Q block schedule size r r' n n' i i' at at' out out' a b = (a.code ∙ sym b.code, a.steps ∙ sym b.steps, a.place ∙ sym b.place, a.position ∙ sym b.position, a.bytes ∙ sym b.bytes)

pub one_replay : (block schedule : List ℕ) (size r r' n n' i i' at at' : ℕ) (out out' : List ℕ) → ReplayedAs block schedule size r n i at out → ReplayedAs block schedule size r' n' i' at' out' → (r ≡ r') × (n ≡ n') × (i ≡ i') × (at ≡ at') × (out ≡ out')
one_replay = one_answered result

pub one_why : (block schedule : List ℕ) (size r r' n n' i i' at at' : ℕ) (out out' : List ℕ) → WhyAs block schedule size r n i at out → WhyAs block schedule size r' n' i' at' out' → (r ≡ r') × (n ≡ n') × (i ≡ i') × (at ≡ at') × (out ≡ out')
one_why = one_answered waits

pub one_race : (block schedule : List ℕ) (r r' j j' k k' n n' i i' at at' : ℕ) → RacedAs block schedule r j k n i at → RacedAs block schedule r' j' k' n' i' at' → (r ≡ r') × (j ≡ j') × (k ≡ k') × (n ≡ n') × (i ≡ i') × (at ≡ at')
one_race = race_unique

pub one_list : (block : List ℕ) (bound size r r' n n' x x' at at' : ℕ) (out out' : List ℕ) → ListedAs block bound size r n x at out → ListedAs block bound size r' n' x' at' out' → (r ≡ r') × (n ≡ n') × (x ≡ x') × (at ≡ at') × (out ≡ out')
one_list block bound size r r' n n' x x' at at' out out' a b =
    let same = outcomes_unique block bound size a.answer b.answer at at' out out' a.list b.list in (
      a.code ∙ ap (λ (y : Listed). y.code) same.0 ∙ sym b.code,
      a.count ∙ ap (λ (y : Listed). y.count) same.0 ∙ sym b.count,
      a.cut ∙ ap (λ (y : Listed). mark_of y.cut) same.0 ∙ sym b.cut,
      same.1,
      same.2,
    )

pub one_board : (kind : ℕ) (block : List ℕ) (bound size r r' n n' x x' at at' : ℕ) (out out' : List ℕ) → BoardListedAs kind block bound size r n x at out → BoardListedAs kind block bound size r' n' x' at' out' → (r ≡ r') × (n ≡ n') × (x ≡ x') × (at ≡ at') × (out ≡ out')
one_board kind block bound size r r' n n' x x' at at' out out' a b =
    let same = Boards.outcomes_unique (machine_of kind) block bound size a.answer b.answer at at' out out' a.list b.list in (
      a.code ∙ ap (λ (y : Listed). y.code) same.0 ∙ sym b.code,
      a.count ∙ ap (λ (y : Listed). y.count) same.0 ∙ sym b.count,
      a.cut ∙ ap (λ (y : Listed). mark_of y.cut) same.0 ∙ sym b.cut,
      same.1,
      same.2,
    )
