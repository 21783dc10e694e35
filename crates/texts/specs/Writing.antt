-- Request 01: what writing the text of a record answers. Assumes nothing.
use Rattle.std.specs.Prelude.{cond, List, [], ◌∷◌, ◌++◌, ℕ, ◌-◌, eqb, ltb, length, replicate}
use Rattle.words.specs.Refusals.{◌when◌, first_code_of}
use Rattle.cases.specs.declared.Case.{Case}
use Rattle.cases.specs.Block.{contents, faults, position_of}
use Rattle.texts.specs.Text.{text_of}
use Rattle.texts.specs.declared.TextWritten.{TextWritten}

-- 3 to 7 and 19 on the record, then 18 'when the lent text buffer is shorter than the text'.
unfoldable pub text_code : Case → ℕ → ℕ
text_code c size = first_code_of (faults (contents c) ++ (18 when ltb size (length (text_of c)) ∷ []))

-- What writing answers: the code; the text's length, 0 with a refusal; the position that a code of the record carries.
unfoldable pub text_fault : Case → ℕ → TextWritten
text_fault c size =
    record {
      code = text_code c size;
      length = cond (eqb (text_code c size) 0) (length (text_of c)) 0;
      position = position_of (contents c) (first_code_of (faults (contents c)));
    }

-- What the buffer then holds: the text 'with zeros after it'; refused, all zeros.
unfoldable pub text_written : Case → ℕ → List ℕ
text_written c size = cond (eqb (text_code c size) 0) (text_of c ++ replicate (size - length (text_of c)) 0) (replicate size 0)
