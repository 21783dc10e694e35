-- What the export for one wanted result hands back, as one statement. Assumes nothing.
use Rattle.std.specs.Prelude.{◌≡◌, List, ℕ}
use Rattle.clauses.specs.declared.Clause.{Clause}
use Rattle.runs.specs.Asking.{Answered}
use Rattle.asking.specs.Asked.{IsAsked}
use Rattle.womm.specs.declared.Answer.{Answer}
use Rattle.womm.specs.Exports.{mark_of}

-- Asked of a block, a bound and clauses, with a schedule buffer of this size: the numbers r, marks as 1 and 0, and the buffer's bytes out.
pub record AskedAs (block : List ℕ) (bound : ℕ) (ks : List Clause) (size : ℕ) (r : Answer) (out : List ℕ) : Type 0 where
  pub answer : Answered
  pub asked : IsAsked block bound ks size answer r.position out
  pub code : r.code ≡ answer.code
  pub yes : r.yes ≡ mark_of answer.yes
  pub long : r.length ≡ answer.length
  pub cut : r.cut ≡ mark_of answer.cut
