-- What is heard of a text before 19 is asked. Assumes nothing.
use Rattle.std.specs.Prelude.{false, List, ℕ, suc, length}
use Rattle.std.proofs.Math.Option.{Option}
use Rattle.cases.specs.declared.Case.{Case}
use Rattle.cases.specs.Block.{nothing}
use Rattle.texts.specs.Lines.{lines_of}
use Rattle.texts.specs.Reading.{Says, FirstBad, told}
use Rattle.texts.specs.declared.TextRead.{TextRead}

-- It says a case, and the line is one more than the number of its lines; or it says none, and the line is the first bad one.
pub data Heard (t : List ℕ) : TextRead → Type 0 where
  said : (c : Case) (bound : Option ℕ) → Says t c bound → Heard t (record { code = 0; line = suc (length (lines_of c bound)); usual = told bound; case = c })
  unsaid : (n : ℕ) → ((c : Case) (bound : Option ℕ) → Says t c bound → ⊥) → FirstBad t n → Heard t (record { code = 17; line = n; usual = false; case = nothing })
