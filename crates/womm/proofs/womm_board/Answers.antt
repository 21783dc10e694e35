use mathlib.Core.Path.{◌≡◌, refl, subst}
use mathlib.Core.List.{List}
use Prim.Native.Nat.{ℕ}
use Rattle.runs.specs.Listing.{Listed}
use Rattle.boards.specs.declared.Buffering.{Buffering}
use Rattle.boardlisting.specs.Outcomes.{answer_of, IsBoardOutcomes}
use Rattle.womm.proofs.Marks.{mark}
use Rattle.womm.proofs.womm_board.Goals as goal

as_machine : {k m : Buffering} {block : List ℕ} {bound size : ℕ} {a : Listed} {at : ℕ} {out : List ℕ} → k ≡ m → IsBoardOutcomes k block bound size a at out → IsBoardOutcomes m block bound size a at out
as_machine {k} {m} {block} {bound} {size} {a} {at} {out} e = subst (λ (n : Buffering). IsBoardOutcomes n block bound size a at out) e

pub returns : goal.returns
returns c =
    let outcomes = c.outcomes-found in
    record {
      answer = answer_of outcomes.result;
      list = as_machine c.machine_of.ensures outcomes.ensures;
      code = refl;
      count = refl;
      cut = mark outcomes.result.cut;
    }
