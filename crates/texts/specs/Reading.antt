-- Requests 01, 09 and 12: what reading a text answers. Assumes nothing.
use Rattle.std.specs.Prelude.{◌≡◌, Bool, false, ◌&&◌, not, cond, List, [], ◌∷◌, ◌++◌, ℕ, zero, suc, ◌+◌, ◌<◌, ◌≤◌, eqb, get_or, take}
use Rattle.std.proofs.Math.Option.{Option}
use Rattle.words.specs.Small.{some_below, or_zero}
use Rattle.words.specs.Refusals.{first_code_of}
use Rattle.cases.specs.declared.Instr.{Instr}
use Rattle.cases.specs.declared.Case.{Case}
use Rattle.cases.specs.Instruction.{instr_bytes}
use Rattle.cases.specs.Block.{reads_at, is_set, faults, contents, Sound, nothing}
use Rattle.cases.specs.Formed.{Formed}
use Rattle.texts.specs.Lines.{Line, head, mem, reg, op, lines_of}
use Rattle.texts.specs.Text.{text_with}
use Rattle.texts.specs.declared.TextRead.{TextRead}

-- A case that gets none of 3 to 7; '17 is judged as before' 19.
pub record Proper (c : Case) : Type 0 where
  pub formed : Formed c
  pub shaped : first_code_of (take 5 (faults (contents c))) ≡ 0

-- The text is one case's text, or its old text with a usual bound from 0 to 96.
pub record Says (t : List ℕ) (c : Case) (bound : Option ℕ) : Type 0 where
  pub proper : Proper c
  pub small : or_zero bound ≤ 96
  pub same : t ≡ text_with bound c

-- Some case's text begins with t.
pub record Begins (t : List ℕ) : Type 0 where
  pub more : List ℕ
  pub case : Case
  pub bound : Option ℕ
  pub says : Says (t ++ more) case bound

-- How many line feeds a text has.
unfoldable pub feeds : List ℕ → ℕ
feeds [] = 0
feeds (b ∷ t) = cond (eqb b 10) 1 0 + feeds t

-- The text up to the end of line n.
unfoldable pub up_to : ℕ → List ℕ → List ℕ
up_to zero t = []
up_to (suc n) [] = []
up_to (suc n) (b ∷ t) = b ∷ cond (eqb b 10) (up_to n t) (up_to (suc n) t)

-- Line n of the text is ended, and some case's text begins with the text up to its end.
pub record Passes (t : List ℕ) (n : ℕ) : Type 0 where
  pub ended : n ≤ feeds t
  pub begins : Begins (up_to n t)

-- Line n is the first that does not pass; one more than the number of lines where each passes.
pub record FirstBad (t : List ℕ) (n : ℕ) : Type 0 where
  pub one : 1 ≤ n
  pub before : (k : ℕ) → 1 ≤ k → k < n → Passes t k
  pub bad : Passes t n → ⊥

-- Byte j of an instruction of processor p names a register that it reads and that nobody sets.
abbrev pub unset_at : Case → ℕ → Instr → ℕ → Bool
unset_at c p x j = reads_at (get_or (instr_bytes x) 0 0) (92 + j) && not (is_set (contents c) p (get_or (instr_bytes x) j 0))

-- The line names such a register.
abbrev pub names : Case → Line → Bool
names c (head p m bound) = false
names c (mem l v) = false
names c (reg p k v) = false
names c (op p x) = some_below 6 (unset_at c p x)

-- The number, from 1, of the first line with the test.
unfoldable pub first_line : (Line → Bool) → List Line → ℕ
first_line f [] = 1
first_line f (l ∷ ls) = cond (f l) 1 (suc (first_line f ls))

-- The caller is told of a usual bound of an old text that is not 0.
abbrev pub told : Option ℕ → Bool
told bound = not (eqb (or_zero bound) 0)

-- The answer: 0 with the case; 19 with the first line naming a register nobody sets; 17 with the first bad line. Refused: the refused case.
pub data Reads (t : List ℕ) : TextRead → Type 0 where
  accepted : (c : Case) (bound : Option ℕ) → Says t c bound → Sound c → Reads t (record { code = 0; line = 0; usual = told bound; case = c })
  unset : (c : Case) (bound : Option ℕ) → Says t c bound → first_code_of (faults (contents c)) ≡ 19 → Reads t (record { code = 19; line = first_line (names c) (lines_of c bound); usual = false; case = nothing })
  refused : (n : ℕ) → ((c : Case) (bound : Option ℕ) → Says t c bound → ⊥) → FirstBad t n → Reads t (record { code = 17; line = n; usual = false; case = nothing })
